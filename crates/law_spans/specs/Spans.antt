-- The waits of a plan's rounds, and the spans that they make of them.
use Rattle.std.specs.Prelude.{◌≡◌, ◌⊎◌, ℕ, suc, ◌<◌, ◌≤◌, List}
use Rattle.net_base.specs.Members.{IsIn}

-- round k is a wait; a list of waits counts the rounds from 1
abbrev pub IsWait : List ℕ → ℕ → Type 0
IsWait waits k = IsIn (suc k) waits

-- each of so many rounds but the first is a wait
abbrev pub AreAllWaits : List ℕ → ℕ → Type 0
AreAllWaits waits rounds = (k : ℕ) → suc k < rounds → IsWait waits (suc k)

-- rounds that follow one another, by the first and the last of them
pub record Span : Type 0 where
  pub first : ℕ
  pub last : ℕ

-- round k is one of them
abbrev pub HasRound : Span → ℕ → Type 0
HasRound span k = (span.first ≤ k) × (k ≤ span.last)

-- some of the rounds of a span, which follow one another
abbrev pub IsPart : Span → Span → Type 0
IsPart part span = (span.first ≤ part.first) × (part.last ≤ span.last)

-- a span of a plan with these waits and so many rounds: a longest list of rounds that follow one another and of which none but the first is a wait
pub record IsSpan (waits : List ℕ) (rounds : ℕ) (span : Span) : Type 0 where
  pub ascends : span.first ≤ span.last
  pub within : span.last < rounds
  pub unbroken : (k : ℕ) → span.first < k → k ≤ span.last → ¬ IsWait waits k
  pub no_sooner : (span.first ≡ 0) ⊎ IsWait waits span.first
  pub no_later : (suc span.last ≡ rounds) ⊎ IsWait waits (suc span.last)
