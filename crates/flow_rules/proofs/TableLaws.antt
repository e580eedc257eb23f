-- A table keeps its keys distinct when a rule is added, taken out or replaced.
use Rattle.std.proofs.Common.{◌≡◌, ◌⊎◌, ◌↔◌, ℕ, Bool, true, false, cond, IsTrue, List, [], ◌∷◌, ◌++◌, map, set, get_or, take, drop, length, ◌<◌, zero, suc, arith, refl, sym, ◌∙◌, ap, subst, inl, inr, ◌||◌}
use Rattle.std.specs.Prelude.{filter, find, not, Some, None, option_map, IsNone, slice_get}
use Rattle.std.specs.List.{list_any}
use Rattle.std.proofs.lemmas.Bool.{cond_both, cond-true, cond-false, false≢true, and_parts, and_from, eqb-true, eq-eqb}
use Rattle.net_base.specs.Members.{IsIn, IsDistinct}
use Rattle.net_base.proofs.MemberLaws.{in_from_filter, in_map, in_from_map}
use Rattle.flow_rules.specs.Patterns.{key_eq}
use Rattle.flow_rules.specs.Tables.{keys_of, IsTable, action_of, TableState, rules_of_all}
use Rattle.flow_rules.proofs.KeyLaws.{key_eq-true, key_eq-refl, key_eq-false, key_ne}
use Rattle.flow_rules.specs.Same.{rewrite_eq, action_eq, rule_eq}
use Rattle.net_base.specs.declared.ids.Port.{Port}
use Rattle.flow_rules.specs.declared.rules.Key.{Key}
use Rattle.flow_rules.specs.declared.rules.Rewrite.{Rewrite}
use Rattle.flow_rules.specs.declared.rules.Rewrite.TheVariants.{Keep, Set, Strip}
use Rattle.flow_rules.specs.declared.rules.Action.{Action}
use Rattle.flow_rules.specs.declared.rules.Action.TheVariants.{Discard, Out}
use Rattle.flow_rules.specs.declared.rules.Rule.{Rule}

in_keys_append : (k : Key) (xs ys : List Rule) → IsIn k (keys_of (xs ++ ys)) → IsIn k (keys_of xs) ⊎ IsIn k (keys_of ys)
in_keys_append k [] ys i = inr i
in_keys_append k (x ∷ xs) ys (inl e) = inl (inl e)
in_keys_append k (x ∷ xs) ys (inr i) = elim (in_keys_append k xs ys i) [ inl a ↦ inl (inr a) | inr b ↦ inr b ]

pub table_push : (rules : List Rule) (r : Rule) → IsTable rules → ¬ IsIn r.key (keys_of rules) → IsTable (rules ++ r ∷ [])
table_push [] r table absent = (λ i. i, tt)
table_push (x ∷ rules) r table absent = (
  λ i. elim (in_keys_append x.key rules (r ∷ []) i) [ inl j ↦ table.0 j | inr j ↦ elim j [ inl e ↦ absent (inl (sym e)) | inr k ↦ k ] ],
  table_push rules r table.1 (λ i. absent (inr i)),
)

pub table_filter : (p : Rule → Bool) (rules : List Rule) → IsTable rules → IsTable (filter p rules)
table_filter p [] table = tt
table_filter p (x ∷ rules) table =
    cond_both (p x) (x ∷ filter p rules) (filter p rules) IsTable
    (λ _. (
      λ i. let (y, j, e) = in_from_map (λ z. z.key) x.key (filter p rules) i in
          table.0 (subst (λ k. IsIn k (keys_of rules)) (sym e) (in_map (λ z. z.key) y rules (in_from_filter p y rules j).0)),
      table_filter p rules table.1,
    ))
    (λ _. table_filter p rules table.1)

-- a replaced rule keeps its key
pub keys_replaced : (r : Rule) (rules : List Rule) → keys_of (map (λ q. cond (key_eq q.key r.key) r q) rules) ≡ keys_of rules
keys_replaced r [] = refl
keys_replaced r (x ∷ rules) =
    let here : (cond (key_eq x.key r.key) r x).key ≡ x.key =
    elim (key_eq x.key r.key) as (λ b. key_eq x.key r.key ≡ b → (cond b r x).key ≡ x.key) [ true ↦ λ e. sym (key_eq-true x.key r.key e) | false ↦ λ e. refl ] refl in
    ap (λ k. k ∷ keys_of (map (λ q. cond (key_eq q.key r.key) r q) rules)) here ∙ ap (λ ks. x.key ∷ ks) (keys_replaced r rules)

pub table_replaced : (r : Rule) (rules : List Rule) → IsTable rules → IsTable (map (λ q. cond (key_eq q.key r.key) r q) rules)
table_replaced r rules table = subst IsDistinct (sym (keys_replaced r rules)) table

-- a key is found where it is
pub key_found : (k : Key) (rules : List Rule) → IsTrue (list_any (λ r. key_eq r.key k) rules) ↔ IsIn k (keys_of rules)
key_found k [] = (λ h. absurd (false≢true h), λ i. absurd i)
key_found k (x ∷ rules) =
    elim (key_eq x.key k) as (λ b. key_eq x.key k ≡ b → IsTrue (b || list_any (λ r. key_eq r.key k) rules) ↔ IsIn k (keys_of (x ∷ rules))) [
      | true ↦ λ e. (λ _. inl (sym (key_eq-true x.key k e)), λ _. refl)
      | false ↦ λ e. (
        λ h. inr ((key_found k rules).0 h),
        λ i. elim i [ inl same ↦ absurd (key_eq-false x.key k e (sym same)) | inr j ↦ (key_found k rules).1 j ],
      )
    ] refl

-- the rules of which the first i are replaced
abbrev pub replaced_to : Rule → ℕ → List Rule → List Rule
replaced_to r i xs = map (λ q. cond (key_eq q.key r.key) r q) (take i xs) ++ drop i xs

replace_more : (r : Rule) (xs : List Rule) (i : ℕ) (d : Rule) → i < length xs → key_eq (get_or (replaced_to r i xs) i d).key r.key ≡ true
    → set (replaced_to r i xs) i r ≡ replaced_to r (suc i) xs
replace_more r [] i d less same = absurd (omega arith)
replace_more r (x ∷ xs) zero d less same = ap (λ y. y ∷ xs) (sym (cond-true (key_eq x.key r.key) r x same))
replace_more r (x ∷ xs) (suc i) d less same = ap (λ ys. cond (key_eq x.key r.key) r x ∷ ys) (replace_more r xs i d (omega arith) same)

replace_same : (r : Rule) (xs : List Rule) (i : ℕ) (d : Rule) → i < length xs → key_eq (get_or (replaced_to r i xs) i d).key r.key ≡ false
    → replaced_to r i xs ≡ replaced_to r (suc i) xs
replace_same r [] i d less differ = absurd (omega arith)
replace_same r (x ∷ xs) zero d less differ = ap (λ y. y ∷ xs) (sym (cond-false (key_eq x.key r.key) r x differ))
replace_same r (x ∷ xs) (suc i) d less differ = ap (λ ys. cond (key_eq x.key r.key) r x ∷ ys) (replace_same r xs i d (omega arith) differ)

pub replaced_then : (r : Rule) (xs ys zs : List Rule) (i : ℕ) (d : Rule) → i < length xs → ys ≡ replaced_to r i xs → key_eq (get_or ys i d).key r.key ≡ true
    → zs ≡ set ys i r → zs ≡ replaced_to r (suc i) xs
replaced_then r xs ys zs i d less is same e =
    e ∙ ap (λ l. set l i r) is ∙ replace_more r xs i d less (subst (λ l. key_eq (get_or l i d).key r.key ≡ true) is same)

pub replaced_else : (r : Rule) (xs ys zs : List Rule) (i : ℕ) (d : Rule) → i < length xs → ys ≡ replaced_to r i xs → key_eq (get_or ys i d).key r.key ≡ false
    → zs ≡ ys → zs ≡ replaced_to r (suc i) xs
replaced_else r xs ys zs i d less is differ e =
    e ∙ is ∙ replace_same r xs i d less (subst (λ l. key_eq (get_or l i d).key r.key ≡ false) is differ)

pub rewrite_eq-true : (a b : Rewrite) → rewrite_eq a b ≡ true → a ≡ b
rewrite_eq-true Keep Keep e = refl
rewrite_eq-true Keep (Set n) e = absurd (false≢true e)
rewrite_eq-true Keep Strip e = absurd (false≢true e)
rewrite_eq-true (Set m) Keep e = absurd (false≢true e)
rewrite_eq-true (Set m) (Set n) e = ap Set (eqb-true m n e)
rewrite_eq-true (Set m) Strip e = absurd (false≢true e)
rewrite_eq-true Strip Keep e = absurd (false≢true e)
rewrite_eq-true Strip (Set n) e = absurd (false≢true e)
rewrite_eq-true Strip Strip e = refl

pub rewrite_eq-refl : (a : Rewrite) → rewrite_eq a a ≡ true
rewrite_eq-refl Keep = refl
rewrite_eq-refl (Set n) = eq-eqb n n refl
rewrite_eq-refl Strip = refl

pub action_eq-true : (a b : Action) → action_eq a b ≡ true → a ≡ b
action_eq-true Discard Discard e = refl
action_eq-true Discard (Out q w) e = absurd (false≢true e)
action_eq-true (Out p r) Discard e = absurd (false≢true e)
action_eq-true (Out p r) (Out q w) e =
    let (port, rewrite) = and_parts _ _ e in
    ap (λ (n : ℕ). let x : Port = record { 0 = n } in Out x r) (eqb-true p.0 q.0 port) ∙ ap (λ v. Out q v) (rewrite_eq-true r w rewrite)

pub action_eq-refl : (a : Action) → action_eq a a ≡ true
action_eq-refl Discard = refl
action_eq-refl (Out p r) = and_from _ _ (eq-eqb p.0 p.0 refl) (rewrite_eq-refl r)

pub rule_same : (a b : Rule) → a.key ≡ b.key → a.action ≡ b.action → a ≡ b
rule_same a b key action = λ i. record { key = key i; action = action i }

pub rule_eq-true : (a b : Rule) → rule_eq a b ≡ true → a ≡ b
rule_eq-true a b e = let (key, action) = and_parts _ _ e in rule_same a b (key_eq-true a.key b.key key) (action_eq-true a.action b.action action)

pub rule_eq-refl : (a : Rule) → rule_eq a a ≡ true
rule_eq-refl a = and_from _ _ (key_eq-refl a.key) (action_eq-refl a.action)

-- a rule is found where it is
pub rule_found : (r : Rule) (rules : List Rule) → IsTrue (list_any (λ x. rule_eq x r) rules) ↔ IsIn r rules
rule_found r [] = (λ h. absurd (false≢true h), λ i. absurd i)
rule_found r (x ∷ rules) =
    elim (rule_eq x r) as (λ b. rule_eq x r ≡ b → IsTrue (b || list_any (λ x. rule_eq x r) rules) ↔ IsIn r (x ∷ rules)) [
      | true ↦ λ e. (λ _. inl (sym (rule_eq-true x r e)), λ _. refl)
      | false ↦ λ e. (
        λ h. inr ((rule_found r rules).0 h),
        λ i. elim i [ inl same ↦ absurd (false≢true (sym e ∙ subst (λ y. rule_eq y r ≡ true) same (rule_eq-refl r))) | inr j ↦ (rule_found r rules).1 j ],
      )
    ] refl

not_same : (k : Key) (rules : List Rule) → ¬ IsIn k (keys_of rules) → filter (λ q. not (key_eq q.key k)) rules ≡ rules
not_same k [] out = refl
not_same k (x ∷ rules) out =
    rw (key_ne x.key k (λ e. out (inl (sym e)))) (ap (λ rs. x ∷ rs) (not_same k rules (λ i. out (inr i))))

-- where a key of a table is taken out, one rule goes
pub one_less : (k : Key) (rules : List Rule) → IsTable rules → IsIn k (keys_of rules) → suc (length (filter (λ q. not (key_eq q.key k)) rules)) ≡ length rules
one_less k [] table i = absurd i
one_less k (x ∷ rules) table (inl e) =
    rw (← e, key_eq-refl k) (ap (λ rs. suc (length rs)) (not_same k rules (subst (λ y. ¬ IsIn y (keys_of rules)) (sym e) table.0)))
one_less k (x ∷ rules) table (inr i) =
    elim (key_eq x.key k) as (λ b. key_eq x.key k ≡ b → suc (length (cond (not b) (x ∷ filter (λ q. not (key_eq q.key k)) rules) (filter (λ q. not (key_eq q.key k)) rules))) ≡ suc (length rules)) [
      | true ↦ λ e. absurd (table.0 (subst (λ y. IsIn y (keys_of rules)) (sym (key_eq-true x.key k e)) i))
      | false ↦ λ e. ap suc (one_less k rules table.1 i)
    ] refl

-- the action of a key is that of a rule of the table with that key
pub action_held : (k : Key) (rules : List Rule) (a : Action) → action_of k rules ≡ Some a → let r : Rule = record { key = k; action = a } in IsIn r rules
action_held k [] a e = absurd (let f : None ≡ Some a = e in cc)
action_held k (x ∷ rules) a e =
    elim (key_eq x.key k) as (λ b. key_eq x.key k ≡ b → option_map (λ (r : Rule). r.action) (cond b (Some x) (find (λ r. key_eq r.key k) rules)) ≡ Some a → (let r : Rule = record { key = k; action = a } in IsIn r (x ∷ rules))) [
      | true ↦ λ same f. inl (let g : x.action ≡ a = let h : Some x.action ≡ Some a = f in cc in
          sym (ap (λ (y : Key). let r : Rule = record { key = y; action = x.action } in r) (key_eq-true x.key k same) ∙ ap (λ (y : Action). let r : Rule = record { key = k; action = y } in r) g))
      | false ↦ λ differ f. inr (action_held k rules a f)
    ] refl e

-- there is none exactly where the key isn't there
pub action_none : (k : Key) (rules : List Rule) → IsNone (action_of k rules) ↔ (¬ IsIn k (keys_of rules))
action_none k [] = (λ h i. i, λ h. refl)
action_none k (x ∷ rules) =
    elim (key_eq x.key k) as (λ b. key_eq x.key k ≡ b → IsNone (option_map (λ (r : Rule). r.action) (cond b (Some x) (find (λ r. key_eq r.key k) rules))) ↔ (¬ IsIn k (keys_of (x ∷ rules)))) [
      | true ↦ λ e. (λ h. absurd (false≢true (sym h)), λ out. absurd (out (inl (sym (key_eq-true x.key k e)))))
      | false ↦ λ e. (
        λ h i. elim i [ inl same ↦ key_eq-false x.key k e (sym same) | inr j ↦ (action_none k rules).0 h j ],
        λ out. (action_none k rules).1 (λ j. out (inr j)),
      )
    ] refl

-- the rules of all tables when one is changed
pub rules_set : (tables : List TableState) (s : ℕ) (t : TableState) → rules_of_all (set tables s t) ≡ set (rules_of_all tables) s t.rules
rules_set [] s t = refl
rules_set (x ∷ tables) zero t = refl
rules_set (x ∷ tables) (suc s) t = ap (λ l. x.rules ∷ l) (rules_set tables s t)

pub rules_get : (tables : List TableState) (s : ℕ) (t : TableState) → slice_get tables s ≡ Some t → get_or (rules_of_all tables) s [] ≡ t.rules
rules_get [] s t e = let f : None ≡ Some t = e in absurd (cc)
rules_get (x ∷ tables) zero t e = let f : Some x ≡ Some t = e in let g : x ≡ t = cc in ap (λ (u : TableState). u.rules) g
rules_get (x ∷ tables) (suc s) t e = rules_get tables s t e
