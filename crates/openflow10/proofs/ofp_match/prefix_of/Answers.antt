use Rattle.std.proofs.Common.{◌≡◌, ◌-◌, ◌^◌, ◌%◌, ℕ, ap, ◌∙◌, arith}
use Rattle.openflow10.proofs.ofp_match.prefix_of.Goals as goal

pub invariant_of-result : goal.invariant_of-result
invariant_of-result c =
    let few = c.requires.few in
    let count : 32 - (32 - c.args.ignored) ≡ c.args.ignored = omega arith in
    record { length = omega arith; base = omega arith; aligned = ap (λ (k : ℕ). c.args.base % 2 ^ k) count ∙ c.requires.aligned }
