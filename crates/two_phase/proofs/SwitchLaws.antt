-- Lists by switch: one more switch, the list of a switch, and the priorities in all lists.
use Rattle.std.proofs.Common.{◌≡◌, ℕ, zero, suc, ◌+◌, ◌<◌, List, [], ◌∷◌, ◌++◌, map, length, get_or, take, sym, ◌∙◌, subst, ap, inl, inr, arith}
use Rattle.std.specs.Prelude.{flat_map}
use Rattle.std.proofs.lemmas.List.{map-append, length-map, append-nil}
use Rattle.std.proofs.lemmas.List.Folds.{flat_map-map}
use Rattle.std.proofs.Math.Seq.{take-length}
use Rattle.std.proofs.lemmas.Grind.{flat_map-append}
use Rattle.net_base.specs.Members.{IsIn, IsSameSet}
use Rattle.net_base.specs.declared.ids.SwitchId.{SwitchId}
use Rattle.net_base.proofs.MemberLaws.{in_map, in_from_map}
use Rattle.net_base.proofs.ListLaws.{in_flat_map, in_from_flat_map}
use Rattle.topology.specs.Networks.{Network, switch_count}
use Rattle.flow_rules.specs.declared.rules.Rule.{Rule}
use Rattle.flow_rules.specs.Tables.{IsTable, rules_at}
use Rattle.dest_classes.specs.Classes.{ascending_numbers}
use Rattle.dest_classes.proofs.ClassLaws.{in_ascending}
use Rattle.dest_classes.proofs.RisingLaws.{in_from_ascending, rises_ascending, same_rising}
use Rattle.net_base.specs.Numbers.{numbers_from}
use Rattle.net_base.proofs.NumberLaws.{numbers_more, numbers_length}
use Rattle.update_model.specs.declared.Change.{Change}
use Rattle.two_phase.specs.TwoPhasePlan.{ingress_rules, in_key_order, switches, ranks}
use Rattle.two_phase.specs.SwitchRules.{AreOrdered}
use Rattle.two_phase.proofs.DistinctLaws.{in_ordered, from_ordered}

-- the switch of a number, and so many of them
abbrev pub numbered : ℕ → SwitchId
numbered n = record { 0 = n }

abbrev pub first_switches : ℕ → List SwitchId
first_switches count = map (λ (n : ℕ). let s : SwitchId = record { 0 = n } in s) (numbers_from 0 count)

-- one switch more
pub first_more : (n : ℕ) → first_switches (n + 1) ≡ first_switches n ++ numbered n ∷ []
first_more n =
    let e : n + 1 ≡ suc n = omega arith in
    ap (λ k. map numbered (numbers_from 0 k)) e ∙ ap (map numbered) (numbers_more 0 n n (omega arith)) ∙ map-append numbered (numbers_from 0 n) (n ∷ [])

pub images_more : {B : Type 0} (f : SwitchId → B) (n : ℕ) → map f (first_switches (n + 1)) ≡ map f (first_switches n) ++ f (numbered n) ∷ []
images_more f n = ap (map f) (first_more n) ∙ map-append f (first_switches n) (numbered n ∷ [])

pub flat_more : {B : Type 0} (f : SwitchId → List B) (n : ℕ) → flat_map f (first_switches (n + 1)) ≡ flat_map f (first_switches n) ++ f (numbered n)
flat_more f n =
    ap (flat_map f) (first_more n) ∙ flat_map-append f (first_switches n) (numbered n ∷ []) ∙ ap (λ ys. flat_map f (first_switches n) ++ ys) (append-nil (f (numbered n)))

pub at_number : {B : Type 0} (f : SwitchId → List B) (m count k : ℕ) → k < count → get_or (map f (map numbered (numbers_from m count))) k [] ≡ f (numbered (m + k))
at_number f m zero k within = absurd (omega arith)
at_number f m (suc count) zero within = let e : m ≡ m + 0 = omega arith in ap (λ i. f (numbered i)) e
at_number f m (suc count) (suc k) within = let e : suc m + k ≡ m + suc k = omega arith in at_number f (suc m) count k (omega arith) ∙ ap (λ i. f (numbered i)) e

-- the list of a switch
pub ordered_at : (net : Network) (rules : SwitchId → List Rule) (lists : List (List Rule)) → AreOrdered net rules lists → (s : SwitchId) → s.0 < switch_count net
    → rules_at lists s ≡ in_key_order (rules s)
ordered_at net rules lists ordered s within =
    let e : 0 + s.0 ≡ s.0 = omega arith in
    ap (λ ls. rules_at ls s) ordered.are ∙ at_number (λ s. in_key_order (rules s)) 0 (switch_count net) s.0 within ∙ ap (λ i. in_key_order (rules (numbered i))) e

pub ordered_count : (net : Network) (rules : SwitchId → List Rule) (lists : List (List Rule)) → AreOrdered net rules lists → length lists ≡ switch_count net
ordered_count net rules lists ordered =
    ap length ordered.are ∙ length-map (switches net) (λ s. in_key_order (rules s)) ∙ length-map (numbers_from 0 (switch_count net)) numbered ∙ numbers_length 0 (switch_count net)

-- one list more, and the changes of one switch more
pub list_pushed : (f : SwitchId → List Rule) (n : ℕ) (all after : List (List Rule)) (rules : List Rule) → all ≡ map f (first_switches n) → rules ≡ f (numbered n) → after ≡ all ++ rules ∷ []
    → after ≡ map f (first_switches (n + 1))
list_pushed f n all after rules e g h = h ∙ ap (λ ls. ls ++ rules ∷ []) e ∙ ap (λ rs. map f (first_switches n) ++ rs ∷ []) g ∙ sym (images_more f n)

pub changes_added : (f : SwitchId → List Change) (n : ℕ) (before after more : List Change) → before ≡ flat_map f (first_switches n) → more ≡ f (numbered n) → after ≡ before ++ more
    → after ≡ flat_map f (first_switches (n + 1))
changes_added f n before after more e g h = h ∙ ap (λ cs. cs ++ more) e ∙ ap (λ cs. flat_map f (first_switches n) ++ cs) g ∙ sym (flat_more f n)

-- all lists are there
pub all_ordered : (net : Network) (rules : SwitchId → List Rule) → ((s : SwitchId) → IsTable (rules s)) → (lists : List (List Rule)) (n : ℕ) → n ≡ switch_count net
    → lists ≡ map (λ s. in_key_order (rules s)) (first_switches n) → AreOrdered net rules lists
all_ordered net rules tables lists n e h = record { tables = tables; are = h ∙ ap (λ k. map (λ s. in_key_order (rules s)) (first_switches k)) e }

-- numbers in ascending order depend on which they are
ascending_same : (xs ys : List ℕ) → IsSameSet xs ys → ascending_numbers xs ≡ ascending_numbers ys
ascending_same xs ys same =
    same_rising (ascending_numbers xs) (ascending_numbers ys) (rises_ascending xs) (rises_ascending ys)
    (λ z. (λ i. in_ascending z ys ((same z).0 (in_from_ascending z xs i)), λ i. in_ascending z xs ((same z).1 (in_from_ascending z ys i))))

-- the ranks are the priorities of the rules in key order
pub ranks_are : (net : Network) (new : List (List Rule)) (lists : List (List Rule)) → AreOrdered net (λ s. ingress_rules net s (rules_at new s)) lists
    → ascending_numbers (32768 ∷ flat_map (λ rules. map (λ r. r.key.priority) rules) lists) ≡ ranks net new
ranks_are net new lists ordered =
    ap (λ ls. ascending_numbers (32768 ∷ flat_map priorities ls)) ordered.are
    ∙ ascending_same (32768 ∷ flat_map priorities (map sorted (switches net))) (32768 ∷ flat_map (λ s. priorities (given s)) (switches net)) (λ z. (to z, from z))
  where
    priorities : List Rule → List ℕ
    priorities rules = map (λ r. r.key.priority) rules

    given : SwitchId → List Rule
    given s = ingress_rules net s (rules_at new s)

    sorted : SwitchId → List Rule
    sorted s = in_key_order (given s)

    to : (z : ℕ) → IsIn z (32768 ∷ flat_map priorities (map sorted (switches net))) → IsIn z (32768 ∷ flat_map (λ s. priorities (given s)) (switches net))
    to z (inl e) = inl e
    to z (inr i) =
        let (rs, j, k) = in_from_flat_map priorities z (map sorted (switches net)) i in
        let (s, l, e) = in_from_map sorted rs (switches net) j in
        let (r, m, f) = in_from_map (λ (r : Rule). r.key.priority) z (sorted s) (subst (λ qs. IsIn z (priorities qs)) e k) in
        inr (in_flat_map (λ s. priorities (given s)) s z (switches net) l
        (subst (λ p. IsIn p (priorities (given s))) (sym f) (in_map (λ (r : Rule). r.key.priority) r (given s) (from_ordered r (given s) m))))

    from : (z : ℕ) → IsIn z (32768 ∷ flat_map (λ s. priorities (given s)) (switches net)) → IsIn z (32768 ∷ flat_map priorities (map sorted (switches net)))
    from z (inl e) = inl e
    from z (inr i) =
        let (s, l, k) = in_from_flat_map (λ s. priorities (given s)) z (switches net) i in
        let (r, m, f) = in_from_map (λ (r : Rule). r.key.priority) z (given s) k in
        inr (in_flat_map priorities (sorted s) z (map sorted (switches net)) (in_map sorted s (switches net) l)
        (subst (λ p. IsIn p (priorities (sorted s))) (sym f) (in_map (λ (r : Rule). r.key.priority) r (sorted s) (in_ordered r (given s) m))))

-- the priorities in all lists, list after list
pub all_priorities : {V : Type 0} (rules_of : V → List Rule) (first : ℕ) (vs : List V) (n : ℕ) → n ≡ length vs → (lists : List (List Rule)) → map rules_of vs ≡ lists
    → first ∷ flat_map (λ v. map (λ r. r.key.priority) (rules_of v)) (take n vs) ≡ first ∷ flat_map (λ rules. map (λ r. r.key.priority) rules) lists
all_priorities rules_of first vs n e lists same =
    ap (λ k. first ∷ flat_map (λ v. map (λ r. r.key.priority) (rules_of v)) (take k vs)) e
    ∙ ap (λ ws. first ∷ flat_map (λ v. map (λ r. r.key.priority) (rules_of v)) ws) (take-length vs)
    ∙ ap (λ ps. first ∷ ps) (sym (flat_map-map (λ (rules : List Rule). map (λ (r : Rule). r.key.priority) rules) rules_of vs))
    ∙ ap (λ ls. first ∷ flat_map (λ rules. map (λ r. r.key.priority) rules) ls) same
