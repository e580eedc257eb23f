-- A prefix that is read is spelled so, and what is spelled so is read.
use Rattle.std.proofs.Common.{◌≡◌, ◌≢◌, ℕ, ◌+◌, ◌*◌, ◌/◌, ◌%◌, ◌^◌, ◌<◌, ◌≤◌, List, ◌∷◌, ◌++◌, Option, Some, None, decimal, refl, sym, ap, ◌∙◌, arith}
use Rattle.std.proofs.lemmas.Bool.{eq-eqb}
use Rattle.std.proofs.lemmas.Option.{option_and_then_some, cond_some, same_Some}
use Rattle.std.proofs.lemmas.Str.Parse.{not_in_digits}
use Rattle.std.proofs.lemmas.Fmt.{digits_decimal}
use Rattle.net_base.specs.Text.{address_in, prefix_in, is_based, address_text, prefix_text}
use Rattle.net_base.specs.Blocks.{Block, IsBlock, block_size}
use Rattle.std.specs.Prelude.{Result, IfOk, OnErr}
use Rattle.std.specs.Option.{ok_or}
use Rattle.net_base.specs.declared.prefix.BadPrefix.{BadPrefix}
use Rattle.net_base.proofs.Decimals.{own, decimal_in-some, decimal_in-decimal}
use Rattle.net_base.proofs.Cuts.{Lacks, Lacks-append, Lacks-cons, cut_first-at, cut_first-some}

-- the parts of an address
parts_of : (a w x y z : ℕ) → w ≤ 255 → x ≤ 255 → y ≤ 255 → z ≤ 255 → ((w * 256 + x) * 256 + y) * 256 + z ≡ a
    → (a / 2 ^ 24 ≡ w) × (a / 2 ^ 16 % 256 ≡ x) × (a / 2 ^ 8 % 256 ≡ y) × (a % 256 ≡ z) × (a < 2 ^ 32)
parts_of a w x y z hw hx hy hz e = (omega arith, omega arith, omega arith, omega arith, omega arith)

spelled : (a w x y z : ℕ) (s t u v : List ℕ) → (a / 2 ^ 24 ≡ w) × (a / 2 ^ 16 % 256 ≡ x) × (a / 2 ^ 8 % 256 ≡ y) × (a % 256 ≡ z) × (a < 2 ^ 32)
    → s ≡ decimal w → t ≡ decimal x → u ≡ decimal y → v ≡ decimal z → s ++ 46 ∷ (t ++ 46 ∷ (u ++ 46 ∷ v)) ≡ address_text a
spelled a w x y z s t u v p es et eu ev = rw (p.0, p.1, p.2, p.3, es, et, eu, ev) refl

pub address_in-some : (s : List ℕ) (a : ℕ) → address_in s ≡ Some a → (s ≡ address_text a) × (a < 2 ^ 32)
unfolding address_in
address_in-some s a e =
    option_and_then_some _ _ a e (λ p hp e1.
    option_and_then_some _ _ a e1 (λ q hq e2.
    option_and_then_some _ _ a e2 (λ r hr e3.
    option_and_then_some _ _ a e3 (λ w hw e4.
    option_and_then_some _ _ a e4 (λ x hx e5.
    option_and_then_some _ _ a e5 (λ y hy e6.
    option_and_then_some _ _ a e6 (λ z hz e7.
    let dw = decimal_in-some p.0 255 w (omega arith) hw in
    let dx = decimal_in-some q.0 255 x (omega arith) hx in
    let dy = decimal_in-some r.0 255 y (omega arith) hy in
    let dz = decimal_in-some r.1 255 z (omega arith) hz in
    let n = parts_of a w x y z dw.1 dx.1 dy.1 dz.1 (same_Some _ _ e7) in
    let c0 = cut_first-some 46 s p hp in
    let c1 = cut_first-some 46 p.1 q hq in
    let c2 = cut_first-some 46 q.1 r hr in
    (c0 ∙ ap (λ t. p.0 ++ 46 ∷ t) (c1 ∙ ap (λ t. q.0 ++ 46 ∷ t) c2) ∙ spelled a w x y z p.0 q.0 r.0 r.1 n dw.0 dx.0 dy.0 dz.0, n.4))))))))

pub prefix_in-some : (s : List ℕ) (b : Block) → prefix_in s ≡ Some b → s ≡ prefix_text b
unfolding prefix_in
prefix_in-some s b e =
    option_and_then_some _ _ b e (λ p hp e1.
    option_and_then_some _ _ b e1 (λ a ha e2.
    option_and_then_some _ _ b e2 (λ l hl e3.
    let t = cond_some (is_based a l) (record { base = a; len = l }) b e3 in
    let da = address_in-some p.0 a ha in
    let dl = decimal_in-some p.1 32 l (omega arith) hl in
    cut_first-some 47 s p hp ∙ rw (da.0, dl.0) (ap prefix_text t.1))))

-- ---- what is spelled so is read

Lacks-decimal : (c n : ℕ) → c < 48 → n < 2 ^ 64 → Lacks c (decimal n)
Lacks-decimal c n low small = not_in_digits own (decimal n) c (digits_decimal own n small) (λ r. omega arith)

IsPrefix-small : (a : ℕ) → a < 2 ^ 32 → (a / 2 ^ 24 ≤ 255) × (a / 2 ^ 16 % 256 ≤ 255) × (a / 2 ^ 8 % 256 ≤ 255) × (a % 256 ≤ 255)
    × (((a / 2 ^ 24 * 256 + a / 2 ^ 16 % 256) * 256 + a / 2 ^ 8 % 256) * 256 + a % 256 ≡ a)
IsPrefix-small a h = (omega arith, omega arith, omega arith, omega arith, omega arith)

pub address_in-text : (a : ℕ) → a < 2 ^ 32 → address_in (address_text a) ≡ Some a
unfolding address_in
address_in-text a small =
    let p = IsPrefix-small a small in
    rw (
      cut_first-at 46 (decimal (a / 2 ^ 24)) (decimal (a / 2 ^ 16 % 256) ++ 46 ∷ (decimal (a / 2 ^ 8 % 256) ++ 46 ∷ decimal (a % 256))) (Lacks-decimal 46 (a / 2 ^ 24) (omega arith) (omega arith)),
      cut_first-at 46 (decimal (a / 2 ^ 16 % 256)) (decimal (a / 2 ^ 8 % 256) ++ 46 ∷ decimal (a % 256)) (Lacks-decimal 46 (a / 2 ^ 16 % 256) (omega arith) (omega arith)),
      cut_first-at 46 (decimal (a / 2 ^ 8 % 256)) (decimal (a % 256)) (Lacks-decimal 46 (a / 2 ^ 8 % 256) (omega arith) (omega arith)),
      decimal_in-decimal (a / 2 ^ 24) 255 p.0 (omega arith),
      decimal_in-decimal (a / 2 ^ 16 % 256) 255 p.1 (omega arith),
      decimal_in-decimal (a / 2 ^ 8 % 256) 255 p.2 (omega arith),
      decimal_in-decimal (a % 256) 255 p.3 (omega arith),
    ) (ap (λ n. Some n) p.4)

Lacks-address : (a : ℕ) → a < 2 ^ 32 → Lacks 47 (address_text a)
Lacks-address a small =
    let p = IsPrefix-small a small in
    Lacks-append 47 (decimal (a / 2 ^ 24)) _ (Lacks-decimal 47 _ (omega arith) (omega arith))
    (Lacks-cons 47 46 _ (λ e. omega arith) (Lacks-append 47 (decimal (a / 2 ^ 16 % 256)) _ (Lacks-decimal 47 _ (omega arith) (omega arith))
    (Lacks-cons 47 46 _ (λ e. omega arith) (Lacks-append 47 (decimal (a / 2 ^ 8 % 256)) _ (Lacks-decimal 47 _ (omega arith) (omega arith))
    (Lacks-cons 47 46 _ (λ e. omega arith) (Lacks-decimal 47 (a % 256) (omega arith) (omega arith)))))))

pub prefix_in-text : (b : Block) → IsBlock b → prefix_in (prefix_text b) ≡ Some b
unfolding prefix_in
prefix_in-text b h =
    rw (
      cut_first-at 47 (address_text b.base) (decimal b.len) (Lacks-address b.base h.base),
      address_in-text b.base h.base,
      decimal_in-decimal b.len 32 h.length (omega arith),
      eq-eqb (b.base % block_size b) 0 h.aligned,
    ) refl

-- what `read_prefix` answers
pub spelled_by : (s : List ℕ) (r : Option Block) (result : Result Block BadPrefix) (bad : BadPrefix) → r ≡ prefix_in s → result ≡ ok_or r bad → IfOk result (λ p. s ≡ prefix_text p)
spelled_by s None result bad e is = rw is tt
spelled_by s (Some p) result bad e is = rw is (prefix_in-some s p (sym e))

pub refused_by : (s : List ℕ) (r : Option Block) (result : Result Block BadPrefix) (bad : BadPrefix) → r ≡ prefix_in s → result ≡ ok_or r bad
    → OnErr result ((b : Block) → IsBlock b → s ≢ prefix_text b)
refused_by s None result bad e is = rw is (λ b h t. absurd (let again = prefix_in-text b h in let f = ap prefix_in t in cc))
refused_by s (Some p) result bad e is = rw is tt
