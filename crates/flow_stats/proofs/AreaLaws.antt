-- Blocks with a common address: one of them is the block around the other.
use Rattle.std.proofs.Common.{◌≡◌, ℕ, ◌+◌, ◌-◌, ◌*◌, ◌/◌, ◌%◌, ◌^◌, ◌<◌, ◌≤◌, Bool, true, refl, sym, ap, subst, ◌∙◌, inl, inr, arith, div-mul-le_self}
use Rattle.std.specs.Prelude.{◌||◌}
use Rattle.std.proofs.Math.Nat.{lt-div-mul-add, mul_assoc}
use Rattle.std.proofs.lemmas.Bool.{and_parts, and_from, or_cases, or_left, or_right, eqb-true, eq-eqb, leb-true, le-leb, ltb-true, lt-ltb}
use Rattle.std.proofs.lemmas.Nat.{pow_pos, pow-add, div-mul-add, div-add-mod'}
use Rattle.net_base.specs.Blocks.{Block, IsBlock, block_size, in_block}
use Rattle.flow_rules.specs.Overlaps.{blocks_meet}
use Rattle.flow_rules.proofs.OverlapLaws.{base_in}
use Rattle.flow_stats.specs.declared.index.Area.TheVariants.{Exactly, Within}
use Rattle.flow_stats.specs.Index.{block_around, block_eq, is_in_area}

-- a number in a part of a whole
part_of : (q s n : ℕ) → q * s ≤ n → n < q * s + s → n / s ≡ q
part_of q s n low high =
    let is : n ≡ q * s + (n - q * s) = omega arith in
    ap (λ x. x / s) is ∙ div-mul-add q s (n - q * s) (omega arith)

-- the first address of a block is a multiple of its size
whole : (b : Block) → IsBlock b → b.base / block_size b * block_size b ≡ b.base
whole b is =
    let parts : b.base / block_size b * block_size b + b.base % block_size b ≡ b.base = div-add-mod' b.base (block_size b) in
    let none : b.base % block_size b ≡ 0 = is.aligned in
    omega (arith, parts, none)

module _ (a b : Block) where
  -- where the block around an address is a, the address lies in a
  pub in_from_around : block_eq (block_around b.base a.len) a ≡ true → in_block a b.base ≡ true
  in_from_around e =
      let base : b.base / block_size a * block_size a ≡ a.base = eqb-true _ _ (and_parts _ _ e).0 in
      let size : 0 < block_size a = pow_pos (32 - a.len) in
      let low : b.base / block_size a * block_size a ≤ b.base = div-mul-le_self b.base (block_size a) in
      let high : b.base < b.base / block_size a * block_size a + block_size a = lt-div-mul-add size in
      and_from _ _ (le-leb a.base b.base (omega (arith, base, low))) (lt-ltb b.base (a.base + block_size a) (omega (arith, base, high)))

  around_base : IsBlock a → in_block a b.base ≡ true → b.base / block_size a * block_size a ≡ a.base
  around_base is e =
      let (l, h) = and_parts _ _ e in
      let low : a.base ≤ b.base = leb-true a.base b.base l in
      let high : b.base < a.base + block_size a = ltb-true b.base (a.base + block_size a) h in
      let base : a.base / block_size a * block_size a ≡ a.base = whole a is in
      ap (λ x. x * block_size a) (part_of (a.base / block_size a) (block_size a) b.base (omega (arith, base, low)) (omega (arith, base, high))) ∙ base

  -- an address in a has a around it
  pub around_from_in : IsBlock a → in_block a b.base ≡ true → block_eq (block_around b.base a.len) a ≡ true
  around_from_in is e = and_from _ _ (eq-eqb _ _ (around_base is e)) (eq-eqb a.len a.len refl)

-- of two blocks with a common address the shorter one has the first address of the other
pub nested : (a b : Block) → IsBlock a → IsBlock b → a.len ≤ b.len → blocks_meet a b ≡ true → in_block a b.base ≡ true
nested a b is_a is_b le e =
    elim (or_cases (in_block a b.base) (in_block b a.base) e) [
      | inl f ↦ f
      | inr f ↦ (
          let s : ℕ = block_size a in
          let t : ℕ = block_size b in
          let k : ℕ = 2 ^ (b.len - a.len) in
          let long : b.len ≤ 32 = is_b.length in
          let sum : b.len - a.len + (32 - b.len) ≡ 32 - a.len = omega arith in
          let size : k * t ≡ s = sym (pow-add 2 (b.len - a.len) (32 - b.len)) ∙ ap (λ (n : ℕ). 2 ^ n) sum in
          let multiple : a.base / s * k * t ≡ a.base = mul_assoc (a.base / s) k t ∙ ap (λ x. a.base / s * x) size ∙ whole a is_a in
          let positive : 0 < t = pow_pos (32 - b.len) in
          let part : a.base / t ≡ a.base / s * k = part_of (a.base / s * k) t a.base (omega (arith, multiple)) (omega (arith, multiple, positive)) in
          let same : b.base ≡ a.base = sym (around_base b a is_b f) ∙ ap (λ x. x * t) part ∙ multiple in
          subst (λ x. in_block a x ≡ true) (sym same) (base_in a))
    ]

or_swap : (x y : Bool) → (x || y) ≡ true → (y || x) ≡ true
or_swap x y e = elim (or_cases x y e) [ inl f ↦ or_right y x f | inr f ↦ or_left y x f ]

module _ (a b : Block) where
  -- a block that is the one around the other's first address has an address in common with it
  pub meets_exactly : (l : ℕ) → is_in_area (Exactly (block_around b.base l)) a ≡ true → blocks_meet a b ≡ true
  meets_exactly l e =
      let (base, len) = and_parts _ _ e in
      let long : a.len ≡ l = eqb-true a.len l len in
      let around : b.base / 2 ^ (32 - a.len) * 2 ^ (32 - a.len) ≡ a.base = ap (λ (n : ℕ). b.base / 2 ^ (32 - n) * 2 ^ (32 - n)) long ∙ sym (eqb-true a.base _ base) in
      or_left (in_block a b.base) (in_block b a.base) (in_from_around a b (and_from _ _ (eq-eqb _ _ around) (eq-eqb a.len a.len refl)))

  pub meets_within : is_in_area (Within b) a ≡ true → blocks_meet a b ≡ true
  meets_within e = or_right (in_block a b.base) (in_block b a.base) (in_from_around b a (and_parts _ _ e).1)

  pub exactly_from_meets : IsBlock a → IsBlock b → a.len ≤ b.len → blocks_meet a b ≡ true → is_in_area (Exactly (block_around b.base a.len)) a ≡ true
  exactly_from_meets is_a is_b le e = and_from _ _ (eq-eqb a.base _ (sym (around_base a b is_a (nested a b is_a is_b le e)))) (eq-eqb a.len a.len refl)

  pub within_from_meets : IsBlock a → IsBlock b → b.len ≤ a.len → blocks_meet a b ≡ true → is_in_area (Within b) a ≡ true
  within_from_meets is_a is_b le e = and_from _ _ (le-leb b.len a.len le) (around_from_in b a is_b (nested b a is_b is_a le (or_swap (in_block a b.base) (in_block b a.base) e)))
