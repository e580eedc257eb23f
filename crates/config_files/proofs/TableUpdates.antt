-- The tables of all switches when one is changed.
use Rattle.std.proofs.Common.{◌≡◌, ℕ, zero, suc, ◌<◌, List, [], ◌∷◌, set, get_or, sym, ◌+◌, ◌-◌, ap, arith}
use Rattle.std.specs.Prelude.{Some, slice_get, find, Bool, false, Result, Ok, Err, MatchResult}
use Rattle.std.specs.List.{range_with_len}
use Rattle.std.proofs.lemmas.Bool.{cond-false}
use Rattle.net_base.specs.Reading.{Fails}
use Rattle.net_base.specs.declared.ids.SwitchId.{SwitchId}
use Rattle.net_base.proofs.Turns.{Fails-bind}
use Rattle.flow_rules.proofs.TableLaws.{rules_set, rules_get}
use Rattle.flow_rules.specs.Tables.{TableState, rules_of_all}
use Rattle.flow_rules.specs.declared.rules.Rule.{Rule}
use Rattle.config_files.specs.declared.fault.ConfigFault.{ConfigFault}
use Rattle.config_files.specs.declared.fault.ConfigFault.TheVariants.{Memory}
use Rattle.config_files.specs.Configuration.{rules_with, with_rule}

-- what holds of each table and of the new one, holds of each after the change
pub each_after : (P : ℕ → List Rule → Type 0) (tables : List (List Rule)) (s : ℕ) (rules : List Rule) → P s rules → ((k : ℕ) → P k (get_or tables k [])) → (k : ℕ) → P k (get_or (set tables s rules) k [])
each_after P [] s rules new old k = old k
each_after P (t ∷ tables) zero rules new old zero = new
each_after P (t ∷ tables) zero rules new old (suc k) = old (suc k)
each_after P (t ∷ tables) (suc s) rules new old zero = old zero
each_after P (t ∷ tables) (suc s) rules new old (suc k) = each_after (λ i rs. P (suc i) rs) tables s rules new (λ i. old (suc i)) k

-- what adding to one table gives, it gives to all
pub added : (place : ℕ) (tables : List TableState) (s : SwitchId) (rule : Rule) (t new : TableState) (r : Result (Unit {0}) ConfigFault) → slice_get tables s.0 ≡ Some t
    → MatchResult r (λ _. rules_with place t.rules rule ≡ Ok new.rules) (λ e. Fails Memory e (rules_with place t.rules rule))
    → MatchResult r (λ _. with_rule place (rules_of_all tables) s rule ≡ Ok (rules_of_all (set tables s.0 new))) (λ e. Fails Memory e (with_rule place (rules_of_all tables) s rule))
unfolding with_rule
added place tables s rule t new (Ok u) at h =
    rw (rules_get tables s.0 t at, h) (ap (λ (ts : List (List Rule)). let r : Result (List (List Rule)) ConfigFault = Ok ts in r) (sym (rules_set tables s.0 new)))
added place tables s rule t new (Err e) at h =
    rw (rules_get tables s.0 t at) (Fails-bind Memory e (rules_with place t.rules rule) (λ rules. Ok (set (rules_of_all tables) s.0 rules)) h)

-- one number fewer to look at
pub find_more : (p : ℕ → Bool) (s n : ℕ) → s < n → p s ≡ false → find p (range_with_len s (n - s)) ≡ find p (range_with_len (s + 1) (n - (s + 1)))
find_more p s n less h =
    let e : n - s ≡ suc (n - (s + 1)) = omega arith in
    rw e (cond-false (p s) (Some s) (find p (range_with_len (s + 1) (n - (s + 1)))) h)
