-- The nearest rule that covers a packet, among those of the slots of all kinds.
use Rattle.std.proofs.Common.{◌≡◌, ℕ, zero, suc, ◌+◌, ◌-◌, ◌<◌, ◌≤◌, true, false, cond, List, [], ◌∷◌, ◌++◌, drop, map, length, get_or, refl, sym, ◌∙◌, subst, ap, inl, inr, arith, append_assoc}
use Rattle.std.specs.Prelude.{Option, Some, None, reverse, slice_get}
use Rattle.std.specs.Option.{option_map_or}
use Rattle.std.proofs.lemmas.Bool.{cases_lt, cases_eq, cond-false, false≢true, false_from_ne_true}
use Rattle.std.proofs.lemmas.List.{drop_more, drop_all, get_or-reverse, length-map, map-append, reverse-append}
use Rattle.std.proofs.lemmas.List.Sorted.{IsPermutation-reverse, IsPermutation-sym}
use Rattle.std.proofs.lemmas.Option.{slice_get_read}
use Rattle.net_base.specs.Members.{IsIn}
use Rattle.net_base.proofs.MemberLaws.{in_map, in_permutation}
use Rattle.net_base.proofs.ItemLaws.{in_from_get, past_end}
use Rattle.flow_rules.specs.Patterns.{Header, covers}
use Rattle.flow_rules.specs.Tuples.{pattern_around, slot_of, link_number, IsLink}
use Rattle.flow_rules.specs.declared.rules.Action.{Action}
use Rattle.flow_rules.specs.declared.rules.Action.TheVariants.{Discard}
use Rattle.flow_rules.specs.declared.rules.Pattern.{Pattern}
use Rattle.round_mix.specs.Nearest.{patterns_back, patterns_in, covers_there, IsMet, IsNear}
use Rattle.round_mix.specs.Scan.{actions_by, is_kept, scan}
use Rattle.round_mix.specs.declared.MarkedRule.{MarkedRule}
use Rattle.round_mix.proofs.PickedLaws.{put_kept, put_possible}

-- a step along a slot passes none of its positions
pub step_seen : (slots : List ℕ) (slot i : ℕ) → get_or slots i 0 ≡ slot → (next : Option ℕ) → IsLink slots (get_or slots i 0) i (link_number next)
    → (Old New : ℕ → Type 0) → ((j : ℕ) → Old j → New j) → New i
    → ((j : ℕ) → i + 1 ≤ j → get_or slots j 0 ≡ slot → Old j) → (j : ℕ) → link_number next ≤ j → get_or slots j 0 ≡ slot → New j
step_seen slots slot i same next link Old New kept here seen j le e =
    elim (cases_lt j i) [
      | inl less ↦ absurd (link.last j le less (e ∙ sym same))
      | inr more ↦ elim (cases_eq j i) [
        | inl at ↦ subst New (sym at) here
        | inr ne ↦ kept j (seen j (omega arith) e)
      ]
    ]

-- where a covering rule stands
place_there : (h : Header) (marks : List MarkedRule) (j : ℕ) → covers_there h marks j ≡ true → (m : MarkedRule) × (slice_get marks j ≡ Some m) × (covers m.rule.key.pattern h ≡ true)
place_there h [] j e = absurd (false≢true e)
place_there h (m ∷ marks) zero e = (m, refl, e)
place_there h (m ∷ marks) (suc j) e = place_there h marks j e

pub there_within : (h : Header) (marks : List MarkedRule) (j : ℕ) → covers_there h marks j ≡ true → j < length marks
there_within h marks j e = let (m, at, _) = place_there h marks j e in past_end marks j m at

-- whether the rule at a position covers the packet
pub there_of : (h : Header) (marks : List MarkedRule) (j : ℕ) (m : MarkedRule) → j < length marks → m ≡ get_or marks j m → covers_there h marks j ≡ covers m.rule.key.pattern h
there_of h marks j m within is = ap (λ o. option_map_or (λ (n : MarkedRule). covers n.rule.key.pattern h) o false) (slice_get_read marks (length marks) j m refl within is)

slot_there : (f : Pattern → ℕ) (marks : List MarkedRule) (j : ℕ) (m : MarkedRule) → slice_get marks j ≡ Some m → get_or (map f (patterns_in marks)) j 0 ≡ f m.rule.key.pattern
slot_there f [] j m e = absurd (let g : None ≡ Some m = e in cc)
slot_there f (n ∷ marks) zero m e = let g : n ≡ m = (let k : Some n ≡ Some m = e in cc) in ap (λ (x : MarkedRule). f x.rule.key.pattern) g
slot_there f (n ∷ marks) (suc j) m e = slot_there f marks j m e

-- and where it stands from the last to the first
slot_back : (f : Pattern → ℕ) (marks : List MarkedRule) (j : ℕ) (m : MarkedRule) → slice_get marks j ≡ Some m → j < length marks
    → get_or (map f (patterns_back marks)) (length marks - 1 - j) 0 ≡ f m.rule.key.pattern
slot_back f marks j m at less =
    let ps = patterns_in marks in
    let count : length (map f ps) ≡ length marks = length-map ps f ∙ length-map marks (λ (x : MarkedRule). x.rule.key.pattern) in
    let back : length (map f ps) - 1 - (length marks - 1 - j) ≡ j = omega arith in
    ap (λ (xs : List ℕ). get_or xs (length marks - 1 - j) 0) (map_reverse f ps)
    ∙ get_or-reverse (map f ps) (length marks - 1 - j) 0 (omega arith)
    ∙ ap (λ (i : ℕ). get_or (map f ps) i 0) back
    ∙ slot_there f marks j m at
  where
    map_reverse : (f : Pattern → ℕ) (xs : List Pattern) → map f (reverse xs) ≡ reverse (map f xs)
    map_reverse f [] = refl
    map_reverse f (x ∷ xs) =
        ap (map f) (reverse-append (x ∷ []) xs) ∙ map-append f (reverse xs) (x ∷ []) ∙ ap (λ (ys : List ℕ). ys ++ f x ∷ []) (map_reverse f xs) ∙ sym (reverse-append (f x ∷ []) (map f xs))

-- one pattern more from the back
pub back_more : (start old new : List Pattern) (rules : List MarkedRule) (i : ℕ) (m : MarkedRule) → 0 < i → i ≤ length rules
    → old ≡ start ++ patterns_back (drop i rules) → new ≡ old ++ (get_or rules (i - 1) m).rule.key.pattern ∷ [] → new ≡ start ++ patterns_back (drop (i - 1) rules)
back_more start old new rules i m more within so_far then =
    let x = get_or rules (i - 1) m in
    let p = x.rule.key.pattern in
    let one : i - 1 + 1 ≡ i = omega arith in
    let split : drop (i - 1) rules ≡ x ∷ drop i rules = drop_more rules (i - 1) m (omega arith) ∙ ap (λ (n : ℕ). x ∷ drop n rules) one in
    then ∙ ap (λ (ps : List Pattern). ps ++ p ∷ []) so_far ∙ append_assoc start (patterns_back (drop i rules)) (p ∷ [])
    ∙ ap (λ (ps : List Pattern). start ++ ps) (sym (reverse-append (p ∷ []) (patterns_in (drop i rules))))
    ∙ ap (λ (ms : List MarkedRule). start ++ patterns_back ms) (sym split)

-- where the slots of all kinds are seen no covering rule is nearer
pub all_near : (h : Header) (marks : List MarkedRule) (from : ℕ) (found : Option ℕ) (kinds patterns : List Pattern) (count : ℕ) → patterns ≡ patterns_back marks
    → ((p : Pattern) (x : Header) → IsIn p patterns → covers p x ≡ true → (k : Pattern) × IsIn k kinds × (pattern_around k x ≡ p))
    → ((k : Pattern) → IsIn k kinds → (i : ℕ) → i < length marks → get_or (map (slot_of count) patterns) i 0 ≡ slot_of count (pattern_around k h) → IsNear h marks from found (length marks - 1 - i))
    → (j : ℕ) → IsNear h marks from found j
all_near h marks from found kinds patterns count is complete seen j le e =
    let (m, at, c) = place_there h marks j e in
    let less = past_end marks j m at in
    let i = length marks - 1 - j in
    let ps = patterns_in marks in
    let here : IsIn m.rule.key.pattern patterns =
    subst (λ xs. IsIn m.rule.key.pattern xs) (sym is)
    (in_permutation (reverse ps) ps m.rule.key.pattern (IsPermutation-sym ps (reverse ps) (IsPermutation-reverse ps)) (in_map (λ (x : MarkedRule). x.rule.key.pattern) m marks (in_from_get marks j m at))) in
    let (k, o, own) = complete m.rule.key.pattern h here c in
    let slot : get_or (map (slot_of count) patterns) i 0 ≡ slot_of count (pattern_around k h) =
    ap (λ xs. get_or (map (slot_of count) xs) i 0) is ∙ slot_back (slot_of count) marks j m at less ∙ ap (slot_of count) (sym own) in
    let back : length marks - 1 - i ≡ j = omega arith in
    subst (λ (x : ℕ). IsNear h marks from found x) back (seen k o i (omega arith) slot) le e

-- the scan passes over rules that don't cover the packet
scan_past : (h : Header) (marks : List MarkedRule) (n : ℕ) → ((j : ℕ) → j < n → covers_there h marks j ≡ true → ⊥) → n ≤ length marks → scan h marks ≡ scan h (drop n marks)
scan_past h marks zero none le = refl
scan_past h [] (suc n) none le = absurd (omega arith)
scan_past h (m ∷ marks) (suc n) none le =
    let missed : covers m.rule.key.pattern h ≡ false = false_from_ne_true (covers m.rule.key.pattern h) (λ e. none zero (omega arith) e) in
    cond-false (covers m.rule.key.pattern h) (actions_by m.mark m.rule.action ++ cond (is_kept m.mark) [] (scan h marks)) (scan h marks) missed
    ∙ scan_past h marks n (λ j less e. none (suc j) (omega arith) e) (omega arith)

-- from one position to another, where no rule between covers the packet
pub scan_to : (h : Header) (marks : List MarkedRule) (from p : ℕ) → ((j : ℕ) → from ≤ j → j < p → covers_there h marks j ≡ true → ⊥) → from ≤ p → p ≤ length marks
    → scan h (drop from marks) ≡ scan h (drop p marks)
scan_to h marks zero p none le within = scan_past h marks p (λ j less e. none j (omega arith) less e) within
scan_to h [] (suc from) p none le within = absurd (omega arith)
scan_to h (m ∷ marks) (suc from) zero none le within = absurd (omega arith)
scan_to h (m ∷ marks) (suc from) (suc p) none le within = scan_to h marks from p (λ j more less e. none (suc j) (omega arith) (omega arith) e) (omega arith) (omega arith)

module _ (h : Header) (marks : List MarkedRule) (from : ℕ) where
  -- the scan goes on at the nearest
  pub scan_nearest : (p : ℕ) → IsMet h marks from (Some p) → ((j : ℕ) → IsNear h marks from (Some p) j) → scan h (drop from marks) ≡ scan h (drop p marks)
  scan_nearest p met near =
      let within = there_within h marks p met.1 in
      scan_to h marks from p (λ j more less e. let (i, is, le) = near j more e in let same : p ≡ i = cc in omega arith) met.0 (omega arith)

  -- and ends where there is none
  pub scan_none : from ≤ length marks → ((j : ℕ) → IsNear h marks from None j) → scan h (drop from marks) ≡ Discard ∷ []
  scan_none le near =
      scan_to h marks from (length marks) (λ j more less e. let (i, is, _) = near j more e in absurd (let f : None ≡ Some i = is in cc)) le (omega arith)
      ∙ ap (scan h) (drop_all (length marks) marks (omega arith))

-- the outcomes by the nearest rule that covers the packet
module _ {B : Type 0} (f : Action → B) (h : Header) (marks : List MarkedRule) (from : ℕ) (old : List B) (p : ℕ) (m : MarkedRule)
    (met : IsMet h marks from (Some p)) (near : (j : ℕ) → IsNear h marks from (Some p) j) (is : m ≡ get_or marks p m) where
  within : p < length marks
  within = there_within h marks p met.1

  covered : covers m.rule.key.pattern h ≡ true
  covered = sym (ap (λ o. option_map_or (λ (n : MarkedRule). covers n.rule.key.pattern h) o false) (slice_get_read marks (length marks) p m refl within is)) ∙ met.1

  rest : scan h (drop from marks) ≡ scan h (m ∷ drop (p + 1) marks)
  rest = scan_nearest h marks from p met near ∙ ap (scan h) (drop_more marks p m within ∙ ap (λ (x : MarkedRule). x ∷ drop (p + 1) marks) (sym is))

  pub found_kept : is_kept m.mark ≡ true → old ++ map f (actions_by m.mark m.rule.action) ≡ old ++ map f (scan h (drop from marks))
  found_kept kept = put_kept f h m (drop (p + 1) marks) old covered kept ∙ ap (λ xs. old ++ map f xs) (sym rest)

  pub found_possible : is_kept m.mark ≡ false → (old ++ map f (actions_by m.mark m.rule.action)) ++ map f (scan h (drop (p + 1) marks)) ≡ old ++ map f (scan h (drop from marks))
  found_possible possible = put_possible f h m (drop (p + 1) marks) old covered possible ∙ ap (λ xs. old ++ map f xs) (sym rest)
