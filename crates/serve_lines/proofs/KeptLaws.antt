-- What is kept of a line.
use Rattle.std.proofs.Common.{◌≡◌, ℕ, ◌+◌, ◌<◌, ◌≤◌, Bool, true, false, cond, ltb, List, [], ◌∷◌, ◌++◌, length, take, take_all, refl, sym, ap, ◌∙◌, inl, inr, length-append, arith}
use Rattle.std.proofs.lemmas.Bool.{cases_lt, lt-ltb, le-ltb}
use Rattle.std.proofs.lemmas.List.{length-take-le, take-append-le}
use Rattle.std.specs.Prelude.{Ok, Err, if◌then◌else◌}
use Rattle.net_base.specs.Lines.{is_comment}
use Rattle.topology.specs.Networks.{Network}
use Rattle.serve_lines.specs.Lines.{kept_bytes, line_in, spelled_in}
use Rattle.serve_lines.specs.declared.fault.LineFault.TheVariants.{Bad}
use Rattle.serve_lines.specs.declared.line.ServeLine.TheVariants.{Comment}

module _ (n : ℕ) (line : List ℕ) (b : ℕ) where
  short_next : length line ≤ n → take n (take n line ++ b ∷ []) ≡ take n (line ++ b ∷ [])
  short_next le = ap (λ (t : List ℕ). take n (t ++ b ∷ [])) (take_all n line le)

  long_next : n ≤ length line → take n (take n line ++ b ∷ []) ≡ take n (line ++ b ∷ [])
  long_next le =
      let all : length (take n line) ≡ n = length-take-le n line le in
      take-append-le n (take n line) (b ∷ []) (omega (arith, all)) ∙ take_all n (take n line) (omega (arith, all)) ∙ sym (take-append-le n line (b ∷ []) le)

  pub kept_next : take n (take n line ++ b ∷ []) ≡ take n (line ++ b ∷ [])
  kept_next = elim (cases_lt n (length line)) [ inl lt ↦ long_next (omega arith) | inr le ↦ short_next le ]

-- a line that is short enough is kept with the next byte
pub kept_more : (m : ℕ) (line : List ℕ) (b : ℕ) → length line < m → line ++ b ∷ [] ≡ take m (line ++ b ∷ [])
kept_more m line b lt = sym (take_all m (line ++ b ∷ []) (omega (arith, length-append line (b ∷ []))))

-- of one that isn't, nothing more is kept
pub kept_full : (m : ℕ) (line : List ℕ) (b : ℕ) → length line ≡ m → line ≡ take m (line ++ b ∷ [])
kept_full m line b all = sym (take-append-le m line (b ∷ []) (omega arith) ∙ take_all m line (omega arith))

module _ {D : Type 0} (n m : ℕ) (one_more : m ≡ n + 1) (bad : D) (f : List ℕ → D) (line : List ℕ) where
  short_told : length line ≤ n → cond (ltb n (length (take m line))) bad (f (take m line)) ≡ cond (ltb n (length line)) bad (f line)
  short_told le = ap (λ (t : List ℕ). cond (ltb n (length t)) bad (f t)) (take_all m line (omega arith))

  long_told : n < length line → cond (ltb n (length (take m line))) bad (f (take m line)) ≡ cond (ltb n (length line)) bad (f line)
  long_told lt =
      let all : length (take m line) ≡ m = length-take-le m line (omega arith) in
      rw (lt-ltb n (length (take m line)) (omega (arith, all)), lt-ltb n (length line) lt) refl

  pub kept_told : cond (ltb n (length (take m line))) bad (f (take m line)) ≡ cond (ltb n (length line)) bad (f line)
  kept_told = elim (cases_lt n (length line)) [ inl lt ↦ long_told lt | inr le ↦ short_told le ]

pub line_kept : (net : Network) (line : List ℕ) → line_in net (kept_bytes line) ≡ line_in net line
line_kept net line = kept_told 262144 262145 refl (Err Bad) (λ (bytes : List ℕ). if is_comment bytes then Ok Comment else spelled_in net bytes) line
