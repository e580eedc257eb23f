-- Each round of a plan is in one span, and in no other.
use Rattle.std.proofs.Common.{◌≡◌, ◌⊎◌, ℕ, zero, suc, ◌+◌, ◌-◌, ◌<◌, ◌≤◌, List, [], ◌∷◌, refl, sym, ◌∙◌, subst, ap, inl, inr, arith}
use Rattle.std.proofs.lemmas.Bool.{cases_lt, cases_eq}
use Rattle.net_base.specs.Members.{IsIn}
use Rattle.law_spans.specs.Spans.{IsWait, AreAllWaits, Span, HasRound, IsPart, IsSpan}

-- a number stands in a list or doesn't
pub in_or_not : (x : ℕ) (xs : List ℕ) → IsIn x xs ⊎ (¬ IsIn x xs)
in_or_not x [] = inr (λ i. i)
in_or_not x (y ∷ ys) =
    elim (cases_eq x y) [
      | inl e ↦ inl (inl e)
      | inr ne ↦ elim (in_or_not x ys) [
        | inl i ↦ inl (inr i)
        | inr none ↦ inr (λ i. elim i [ inl e ↦ ne e | inr j ↦ none j ])
      ]
    ]

-- from where on none of the rounds up to k is a wait
record Beginning (waits : List ℕ) (k : ℕ) : Type 0 where
  first : ℕ
  reached : first ≤ k
  unbroken : (r : ℕ) → first < r → r ≤ k → ¬ IsWait waits r
  no_sooner : (first ≡ 0) ⊎ IsWait waits first

beginning : (waits : List ℕ) (k : ℕ) → Beginning waits k
beginning waits zero = record { first = 0; reached = omega arith; unbroken = λ r above below. absurd (omega arith); no_sooner = inl refl }
beginning waits (suc k) =
    elim (in_or_not (suc (suc k)) waits) [
      | inl wait ↦ record { first = suc k; reached = omega arith; unbroken = λ r above below. absurd (omega arith); no_sooner = inr wait }
      | inr none ↦ (
          let b = beginning waits k in
          record {
            first = b.first;
            reached = (let h = b.reached in omega arith);
            unbroken = λ r above below. elim (cases_eq r (suc k)) [
              | inl e ↦ subst (λ n. ¬ IsWait waits n) (sym e) none
              | inr ne ↦ b.unbroken r above (omega arith)
            ];
            no_sooner = b.no_sooner;
          })
    ]

-- and up to where none behind k is
record Ending (waits : List ℕ) (rounds k : ℕ) : Type 0 where
  last : ℕ
  reached : k ≤ last
  within : last < rounds
  unbroken : (r : ℕ) → k < r → r ≤ last → ¬ IsWait waits r
  no_later : (suc last ≡ rounds) ⊎ IsWait waits (suc last)

ending : (waits : List ℕ) (rounds left k : ℕ) → suc k + left ≡ rounds → Ending waits rounds k
ending waits rounds zero k e = record { last = k; reached = omega arith; within = omega arith; unbroken = λ r above below. absurd (omega arith); no_later = inl (omega arith) }
ending waits rounds (suc left) k e =
    elim (in_or_not (suc (suc k)) waits) [
      | inl wait ↦ record { last = k; reached = omega arith; within = omega arith; unbroken = λ r above below. absurd (omega arith); no_later = inr wait }
      | inr none ↦ (
          let b = ending waits rounds left (suc k) (omega arith) in
          record {
            last = b.last;
            reached = (let h = b.reached in omega arith);
            within = b.within;
            unbroken = λ r above below. elim (cases_eq r (suc k)) [
              | inl e ↦ subst (λ n. ¬ IsWait waits n) (sym e) none
              | inr ne ↦ b.unbroken r (omega arith) below
            ];
            no_later = b.no_later;
          })
    ]

-- the span of a round
pub span_of : (waits : List ℕ) (rounds k : ℕ) → k < rounds → (span : Span) × IsSpan waits rounds span × HasRound span k
span_of waits rounds k less =
    let b = beginning waits k in
    let e = ending waits rounds (rounds - suc k) k (omega arith) in (
      record { first = b.first; last = e.last },
      record {
        ascends = (let g = b.reached in let h = e.reached in omega arith);
        within = e.within;
        unbroken = λ r above below. elim (cases_lt k r) [ inl behind ↦ e.unbroken r behind below | inr before ↦ b.unbroken r above before ];
        no_sooner = b.no_sooner;
        no_later = e.no_later;
      },
      (b.reached, e.reached),
    )

module _ (waits : List ℕ) (rounds : ℕ) where
  -- a span begins no later than rounds of which none but the first is a wait, where both have a round
  pub begins_no_later : (span : Span) → IsSpan waits rounds span → (first k : ℕ) → first ≤ k → HasRound span k → ((r : ℕ) → first < r → r ≤ k → ¬ IsWait waits r) → span.first ≤ first
  begins_no_later span is first k le has unbroken =
      elim (cases_lt first span.first) [
        | inl later ↦ elim is.no_sooner [
          | inl e ↦ absurd (omega arith)
          | inr wait ↦ absurd (unbroken span.first later has.0 wait)
        ]
        | inr ge ↦ ge
      ]

  -- and ends no sooner
  ends_no_sooner : (a b : Span) → IsSpan waits rounds a → IsSpan waits rounds b → (k : ℕ) → HasRound a k → HasRound b k → b.last ≤ a.last
  ends_no_sooner a b is other k has holds =
      elim (cases_lt a.last b.last) [
        | inl sooner ↦ elim is.no_later [
          | inl e ↦ absurd (let w = other.within in omega arith)
          | inr wait ↦ absurd (other.unbroken (suc a.last) (let g = holds.0 in let h = has.1 in omega arith) (omega arith) wait)
        ]
        | inr ge ↦ ge
      ]

  pub one_span : (a b : Span) → IsSpan waits rounds a → IsSpan waits rounds b → (k : ℕ) → HasRound a k → HasRound b k → a ≡ b
  one_span a b is other k has holds =
      let p = begins_no_later a is b.first k holds.0 has (λ r above below. other.unbroken r above (let h = holds.1 in omega arith)) in
      let q = begins_no_later b other a.first k has.0 holds (λ r above below. is.unbroken r above (let h = has.1 in omega arith)) in
      let r = ends_no_sooner a b is other k has holds in
      let s = ends_no_sooner b a other is k holds has in
      let first : a.first ≡ b.first = omega arith in
      let last : a.last ≡ b.last = omega arith in
      ap (λ (n : ℕ). let x : Span = record { first = n; last = a.last } in x) first
      ∙ ap (λ (n : ℕ). let x : Span = record { first = b.first; last = n } in x) last

  -- a span is a longest such list of rounds
  pub longest_span : (span other : Span) → IsSpan waits rounds span → other.last < rounds → ((k : ℕ) → other.first < k → k ≤ other.last → ¬ IsWait waits k) → IsPart span other → IsPart other span
  longest_span span other is within unbroken (first, last) =
      let ascends = is.ascends in (
        elim (cases_lt other.first span.first) [
          | inl sooner ↦ elim is.no_sooner [
            | inl e ↦ absurd (omega arith)
            | inr wait ↦ absurd (unbroken span.first sooner (omega arith) wait)
          ]
          | inr ge ↦ ge
        ],
        elim (cases_lt span.last other.last) [
          | inl later ↦ elim is.no_later [
            | inl e ↦ absurd (omega arith)
            | inr wait ↦ absurd (unbroken (suc span.last) (omega arith) (omega arith) wait)
          ]
          | inr ge ↦ ge
        ],
      )

  -- where each round is a wait, each is a span of its own
  pub alone_is_span : AreAllWaits waits rounds → (k : ℕ) → k < rounds → IsSpan waits rounds (record { first = k; last = k })
  alone_is_span all k less = record {
    ascends = omega arith;
    within = less;
    unbroken = λ r above below. absurd (omega arith);
    no_sooner = no_sooner_than k less;
    no_later = elim (cases_lt (suc k) rounds) [ inl more ↦ inr (all k more) | inr ge ↦ inl (omega arith) ];
  }
    where
      no_sooner_than : (r : ℕ) → r < rounds → (r ≡ 0) ⊎ IsWait waits r
      no_sooner_than zero lt = inl refl
      no_sooner_than (suc r) lt = inr (all r lt)

  -- and there is no longer one
  pub span_is_alone : AreAllWaits waits rounds → (span : Span) → IsSpan waits rounds span → span ≡ (let x : Span = record { first = span.first; last = span.first } in x)
  span_is_alone all span is =
      one_span span (record { first = span.first; last = span.first }) is
      (alone_is_span all span.first (let h = is.ascends in let w = is.within in omega arith)) span.first (omega arith, is.ascends) (omega arith, omega arith)
