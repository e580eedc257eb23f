-- The tree of tables is read as its rules and its changes, by the words of those who read plans.
use Rattle.std.proofs.Common.{◌≡◌, ℕ, ◌<◌, ◌≤◌, Bool, true, false, List, [], ◌∷◌, ◌++◌, length, map, codes, Option, Some, None, Result, Ok, Err, refl, ◌∙◌, arith}
use Rattle.std.specs.Prelude.{⊤, ◌&&◌, nat_le}
use Rattle.std.specs.List.{AllByRecursion}
use Rattle.std.proofs.lemmas.Bool.{lt-ltb}
use Rattle.serde_json.specs.Data.{Data, string, object, Members, no_members, member}
use Rattle.serde_json.specs.Find.{get}
use Rattle.config_files.specs.RuleTrees.{list_tree}
use Rattle.net_base.specs.Members.{IsDistinct}
use Rattle.net_base.specs.Reading.{◌>>=◌, check, need, in_turn, place_of}
use Rattle.net_base.specs.declared.field.Field.{Field}
use Rattle.net_base.specs.Text.{prefix_in}
use Rattle.flat_json.specs.JsonTree.{text_at, whole_at}
use Rattle.flat_json.proofs.JsonTree.{list_of-items_of}
use Rattle.topology.specs.Networks.{Network, switch_named}
use Rattle.update_model.specs.declared.Change.{Change}
use Rattle.update_model.specs.declared.Change.TheVariants.{Insert, Delete, Replace}
use Rattle.update_model.specs.Ranges.{IsPlanChange}
use Rattle.plan_format.specs.declared.rules.PlanRule.{PlanRule}
use Rattle.plan_format.specs.declared.changes.Spelling.TheVariants.{Objects}
use Rattle.plan_format.specs.declared.fault.PlanFault.{PlanFault}
use Rattle.plan_format.specs.Changes.{in_port_word, vlan_word, out_word, set_word, strip_word, port_choice, test_of, action_of, rule_of, rule_in, object_change, change_at, round_in, rule_at, rules_in}
use Rattle.plan_text.specs.PlanText.{rule_members, rule_tree, plan_rule_of, change_tree, round_tree}
use Rattle.plan_text.proofs.ChangesAgain.{IsInRange, rules_again}
use Rattle.plan_text.proofs.InTurn.{turns_again}
use Rattle.plan_text.proofs.Order.{word_is}

-- ---- what is read doesn't rest on the place, which only a refusal names

need_free : {A B E : Type 0} (o : Option A) (x y : E) (f g : A → Result B E) (v : B) → ((a : A) → f a ≡ Ok v → g a ≡ Ok v) → (need o x >>= f) ≡ Ok v → (need o y >>= g) ≡ Ok v
need_free None x y f g v next e = absurd cc
need_free (Some a) x y f g v next e = next a e

check_free : {B E : Type 0} (b : Bool) (x y : E) (f g : ⊤ → Result B E) (v : B) → (f tt ≡ Ok v → g tt ≡ Ok v) → (check b x >>= f) ≡ Ok v → (check b y >>= g) ≡ Ok v
check_free false x y f g v next e = absurd cc
check_free true x y f g v next e = next e

rule_anywhere : (net : Network) (a b : ℕ) (d : Data) (p : PlanRule) → rule_in net a d ≡ Ok p → rule_in net b d ≡ Ok p
unfolding rule_in rule_of
rule_anywhere net a b d p =
    need_free (text_at (codes "switch") d) _ _ _ _ p (λ name. need_free (switch_named net.names name) _ _ _ _ p (λ switch. need_free (whole_at (codes "priority") d) _ _ _ _ p (λ priority.
    need_free (in_port_word (get (codes "in_port") d)) _ _ _ _ p (λ in_port. need_free (vlan_word (get (codes "vlan") d)) _ _ _ _ p (λ vlan. need_free (text_at (codes "dst") d) _ _ _ _ p (λ dst.
    need_free (out_word (get (codes "out") d)) _ _ _ _ p (λ out. need_free (set_word (get (codes "set") d)) _ _ _ _ p (λ set. need_free (strip_word (get (codes "strip") d)) _ _ _ _ p (λ strip.
    check_free (nat_le 1 priority && nat_le priority 65535) _ _ _ _ p (need_free (port_choice in_port) _ _ _ _ p (λ made_port. need_free (test_of vlan) _ _ _ _ p (λ made_vlan.
    need_free (prefix_in dst) _ _ _ _ p (λ made_dst. need_free (action_of out set strip) _ _ _ _ p (λ action e. e))))))))))))))

-- ---- one rule

single : (r : Result PlanRule PlanFault) (p : PlanRule) → ((r >>= λ x. Ok ([] ++ x ∷ [])) >>= λ t. Ok t) ≡ Ok (p ∷ []) → r ≡ Ok p
single (Ok x) p e = cc
single (Err f) p e = absurd cc

first_rule : (net : Network) (p : PlanRule) → IsDistinct net.names → IsInRange net p → rule_in net 0 (rule_tree net p) ≡ Ok p
unfolding rules_in in_turn rule_at
first_rule net p distinct h =
    let ms : Members = member (codes "rules") (list_tree (rule_tree net p ∷ [])) no_members in
    let e : rules_in net (object ms) ≡ Ok (p ∷ []) = rules_again net ms (p ∷ []) refl distinct (omega arith) (h, tt) in
    single (rule_in net 0 (rule_tree net p)) p e

-- ---- changes

-- the word beside a rule's members is none of them
worded : (net : Network) (place : ℕ) (w : Data) (ms : Members) → rule_in net place (object (member (codes "do") w ms)) ≡ rule_in net place (object ms)
unfolding rule_in
worded net place w ms = refl

module _ (net : Network) (distinct : IsDistinct net.names) where
  rule_read : (place : ℕ) (word : List ℕ) (c : Change) → IsPlanChange net c → rule_in net place (object (member (codes "do") (string word) (rule_members net (plan_rule_of c)))) ≡ Ok (plan_rule_of c)
  rule_read place word c h =
      let p : PlanRule = plan_rule_of c in
      let range : IsInRange net p = record { switch = h.switch; priority = h.priority; priority_most = h.priority_most; port = h.port; vlan = h.vlan; dst = h.dst; action = h.action } in
      worded net place (string word) (rule_members net p) ∙ rule_anywhere net 0 place (rule_tree net p) p (first_rule net p distinct range)

  change_again : (list : Field) (place : ℕ) (c : Change) → IsPlanChange net c → object_change net list place (change_tree net c) ≡ Ok c
  unfolding object_change
  change_again list place (Insert s r) h = rw (word_is net (codes "insert") (plan_rule_of (Insert s r)), rule_read place (codes "insert") (Insert s r) h) refl
  change_again list place (Delete s r) h = rw (word_is net (codes "delete") (plan_rule_of (Delete s r)), rule_read place (codes "delete") (Delete s r) h) refl
  change_again list place (Replace s r) h = rw (word_is net (codes "replace") (plan_rule_of (Replace s r)), rule_read place (codes "replace") (Replace s r) h) refl

  next_change : (list : Field) (i : ℕ) (before : List Change) (c : Change) → i < 2200000 → IsPlanChange net c → change_at net Objects list (place_of i) before (change_tree net c) ≡ Ok (before ++ c ∷ [])
  unfolding change_at
  next_change list i before c lt h =
      let small : place_of i < 2200000 = omega arith in
      rw (lt-ltb (place_of i) 2200000 small, change_again list (place_of i) c h) refl

  pub round_again : (list : Field) (place : ℕ) (round : List Change) → length round ≤ 2200000 → AllByRecursion (IsPlanChange net) round → round_in net Objects list place 0 (round_tree net round) ≡ Ok round
  unfolding round_in
  round_again list place round few hs =
      rw (list_of-items_of (map (change_tree net) round))
      (turns_again (change_at net Objects list) (change_tree net) (IsPlanChange net) 2200000 (λ i before c lt h. next_change list i before c lt h) 0 [] round (omega arith) hs)
