-- The marks of the tables when a rule is added to one.
use Rattle.std.proofs.Common.{◌≡◌, ◌≢◌, ℕ, zero, suc, ◌<◌, Bool, true, false, ◌&&◌, List, [], ◌∷◌, ◌++◌, length, replicate, get_or, set, refl, sym, ap, subst, ◌∙◌, inl, inr, arith}
use Rattle.std.specs.Prelude.{◌||◌, Some, slice_get, Result, Ok, Err, OnOk}
use Rattle.std.specs.List.{list_any}
use Rattle.std.proofs.lemmas.Bool.{cases_eq, eq-eqb, ne_eqb}
use Rattle.std.proofs.lemmas.List.{length-map, get_or-set_same, get_or-set_other}
use Rattle.net_base.specs.Blocks.{IsBlock}
use Rattle.net_base.specs.Members.{IsIn}
use Rattle.net_base.specs.declared.ids.SwitchId.{SwitchId}
use Rattle.net_base.proofs.MemberLaws.{in_append_cases}
use Rattle.flow_rules.specs.Tables.{TableState, rules_at, rules_of_all}
use Rattle.flow_rules.specs.declared.rules.Rule.{Rule}
use Rattle.flow_rules.proofs.TableLaws.{rules_set, rules_get}
use Rattle.flow_stats.specs.declared.index.Mark.{Mark}
use Rattle.flow_stats.specs.Index.{IsIndexOf, AreIndexed, Adds, has_mark, is_mark_of, is_mark_at}

any_push : {A : Type 0} (p : A → Bool) (xs : List A) (x : A) → list_any p (xs ++ x ∷ []) ≡ (p x || list_any p xs)
any_push p [] x = refl
any_push p (y ∷ xs) x = ap (λ b. p y || b) (any_push p xs x) ∙ by (p y) (p x) (list_any p xs)
  where
    by : (a b c : Bool) → (a || (b || c)) ≡ (b || (a || c))
    by true true c = refl
    by true false c = refl
    by false b c = refl

-- the table of the switch
index_push : (s : SwitchId) (rules : List Rule) (r : Rule) (old new : List Mark) → IsIndexOf s rules old → Adds old (is_mark_at s r.key) new → IsBlock r.key.pattern.dst → IsIndexOf s (rules ++ r ∷ []) new
index_push s rules r old new index adds block = record {
  blocks = λ q i. elim (in_append_cases q rules (r ∷ []) i) [
    | inl j ↦ index.blocks q j
    | inr j ↦ elim j [ inl e ↦ subst (λ (x : Rule). IsBlock x.key.pattern.dst) (sym e) block | inr none ↦ absurd none ]
  ];
  stand = λ m here.
      adds m
      ∙ ap (λ b. (b && is_mark_of m r.key) || has_mark old m) (eq-eqb s.0 m.group.switch.0 (sym here))
      ∙ ap (λ b. is_mark_of m r.key || b) (index.stand m here)
      ∙ sym (any_push (λ (q : Rule). is_mark_of m q.key) rules r);
}

-- that of another one
index_other : (s t : SwitchId) (rules : List Rule) (r : Rule) (old new : List Mark) → t.0 ≢ s.0 → IsIndexOf t rules old → Adds old (is_mark_at s r.key) new → IsIndexOf t rules new
index_other s t rules r old new apart index adds = record {
  blocks = index.blocks;
  stand = λ m here.
      adds m
      ∙ ap (λ b. (b && is_mark_of m r.key) || has_mark old m) (ne_eqb s.0 m.group.switch.0 (λ e. apart (sym here ∙ sym e)))
      ∙ index.stand m here;
}

-- all tables
indexed_set : (tables : List (List Rule)) (s : SwitchId) (r : Rule) (old new : List Mark) → s.0 < length tables → AreIndexed tables old → Adds old (is_mark_at s r.key) new → IsBlock r.key.pattern.dst
    → AreIndexed (set tables s.0 (rules_at tables s ++ r ∷ [])) new
indexed_set tables s r old new within index adds block t =
    elim (cases_eq t.0 s.0) [
      | inl e ↦ (
          let same : t ≡ s = ap (λ (n : ℕ). let x : SwitchId = record { 0 = n } in x) e in
          subst (λ (x : SwitchId). IsIndexOf x (rules_at (set tables s.0 (rules_at tables s ++ r ∷ [])) x) new) (sym same)
          (subst (λ rules. IsIndexOf s rules new) (sym (get_or-set_same tables s.0 (rules_at tables s ++ r ∷ []) [] within)) (index_push s (rules_at tables s) r old new (index s) adds block)))
      | inr apart ↦ subst (λ rules. IsIndexOf t rules new) (sym (get_or-set_other tables s.0 t.0 (rules_at tables s ++ r ∷ []) [] apart)) (index_other s t (rules_at tables t) r old new apart (index t) adds)
    ]

module _ (tables : List TableState) (s : SwitchId) (t : TableState) (at : slice_get tables s.0 ≡ Some t) where
  -- the marks are those of the switch's table
  pub index_here : (marks : List Mark) → AreIndexed (rules_of_all tables) marks → IsIndexOf s t.rules marks
  index_here marks index = subst (λ rules. IsIndexOf s rules marks) (rules_get tables s.0 t at) (index s)

  -- and stay those of all tables when a rule and its marks are added
  pub indexed_more : {E : Type 0} (r : Rule) (new : TableState) (old marks : List Mark) (result : Result (Unit {0}) E) → s.0 < length tables → AreIndexed (rules_of_all tables) old
      → OnOk result ((new.rules ≡ t.rules ++ r ∷ []) × Adds old (is_mark_at s r.key) marks × IsBlock r.key.pattern.dst) → OnOk result (AreIndexed (rules_of_all (set tables s.0 new)) marks)
  indexed_more r new old marks (Err e) within index added = tt
  indexed_more r new old marks (Ok u) within index (pushed, adds, block) =
      subst (λ all. AreIndexed all marks)
      (ap (λ rules. set (rules_of_all tables) s.0 (rules ++ r ∷ [])) (rules_get tables s.0 t at) ∙ ap (λ rules. set (rules_of_all tables) s.0 rules) (sym pushed) ∙ sym (rules_set tables s.0 new))
      (indexed_set (rules_of_all tables) s r old marks (omega (arith, within, length-map tables (λ (t : TableState). t.rules))) index adds block)

-- no rules have no marks
none_at : (count s : ℕ) → get_or (replicate count (let none : List Rule = [] in none)) s [] ≡ []
none_at zero s = refl
none_at (suc count) zero = refl
none_at (suc count) (suc s) = none_at count s

none_indexed : (count : ℕ) → AreIndexed (replicate count []) []
none_indexed count s = subst (λ rules. IsIndexOf s rules []) (sym (none_at count s.0)) (record { blocks = λ r i. absurd i; stand = λ m here. refl })

pub none_marked : (tables : List (List Rule)) (marks : List Mark) (count : ℕ) → tables ≡ replicate count [] → marks ≡ [] → AreIndexed tables marks
none_marked tables marks count e f = subst (λ ts. AreIndexed ts marks) (sym e) (subst (λ ms. AreIndexed (replicate count []) ms) (sym f) (none_indexed count))
