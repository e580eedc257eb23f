-- The destinations of an entry are those of a prefix.
use Rattle.std.proofs.Common.{◌≡◌, ℕ, ◌-◌, ◌*◌, ◌/◌, ◌%◌, ◌^◌, ◌<◌, ◌≤◌, ap, ◌∙◌, sym, div-mul-le_self, add-zero, arith}
use Rattle.std.proofs.lemmas.Nat.{pow_pos, mod-mul-add}
use Rattle.net_base.specs.Blocks.{Block, IsBlock}
use Rattle.openflow10.specs.declared.ofp_match.MatchFields.{MatchFields}
use Rattle.flow_stats.specs.Profile.{ignored_of, dst_in}

-- an address without its low bits
pub whole_part : (address ignored : ℕ) → ignored ≤ 32 → address < 2 ^ 32 → let b : Block = record { base = address / 2 ^ ignored * 2 ^ ignored; len = 32 - ignored } in IsBlock b
whole_part address ignored few below =
    let size : 0 < 2 ^ ignored = pow_pos ignored in
    let le : address / 2 ^ ignored * 2 ^ ignored ≤ address = div-mul-le_self address (2 ^ ignored) in
    let count : 32 - (32 - ignored) ≡ ignored = omega arith in
    let base : ℕ = address / 2 ^ ignored * 2 ^ ignored in
    record {
      length = omega arith;
      base = omega (arith, le, below);
      aligned = ap (λ (k : ℕ). base % 2 ^ k) count ∙ ap (λ (n : ℕ). n % 2 ^ ignored) (sym (add-zero base)) ∙ mod-mul-add (address / 2 ^ ignored) (2 ^ ignored) 0 size;
    }

few_ignored : (m : MatchFields) → ignored_of m ≤ 32
few_ignored m = omega arith

pub dst_block : (m : MatchFields) → m.nw_dst < 2 ^ 32 → IsBlock (dst_in m)
unfolding dst_in
dst_block m below = whole_part m.nw_dst (ignored_of m) (few_ignored m) below
