-- The greedy cut has the fewest waits: between a wait of it and the one before, every other cut has a wait.
use Rattle.std.proofs.Common.{◌≡◌, ◌⊎◌, ℕ, zero, suc, ◌-◌, ◌<◌, ◌≤◌, List, [], ◌∷◌, length, refl, sym, subst, inl, inr, arith}
use Rattle.std.proofs.lemmas.Bool.{cases_lt, cases_eq}
use Rattle.net_base.specs.Members.{IsIn}
use Rattle.net_base.proofs.MemberLaws.{each_at}
use Rattle.dest_classes.specs.declared.Class.{Class}
use Rattle.demands.specs.Duties.{duties_of}
use Rattle.certificates.specs.Updates.{Task, rollout}
use Rattle.certificates.specs.Valid.{IsChain}
use Rattle.certificates.specs.declared.Evidence.{Evidence}
use Rattle.certificates.specs.declared.Evidence.TheVariants.{Ordered, TwoPhase}
use Rattle.certificates.specs.declared.OrderedEvidence.{OrderedEvidence}
use Rattle.certificates.specs.declared.TwoPhaseEvidence.{TwoPhaseEvidence}
use Rattle.law_spans.specs.Spans.{IsWait, Span, IsPart, IsSpan}
use Rattle.law_spans.specs.Certified.{IsCertifiedWithWaits}
use Rattle.law_spans.specs.Cuts.{AreWaits, CanBeSafeInSpan, CanBeCertified, IsGreedyCut}
use Rattle.law_spans.proofs.SpanLaws.{in_or_not, span_of}
use Rattle.law_spans.proofs.Parts.{safe_in_part, two_phase_part}

-- ascending numbers
abbrev Ascends : List ℕ → Type 0
Ascends xs = IsChain (λ v w. v < w) xs

ascends_rest : (x : ℕ) (xs : List ℕ) → Ascends (x ∷ xs) → Ascends xs
ascends_rest x [] h = tt
ascends_rest x (y ∷ xs) h = h.1

-- the first is the least
first_least : (x : ℕ) (xs : List ℕ) → Ascends (x ∷ xs) → (y : ℕ) → IsIn y xs → x < y
first_least x [] h y i = absurd i
first_least x (z ∷ xs) h y (inl e) = let less = h.0 in omega arith
first_least x (z ∷ xs) h y (inr i) = let less = h.0 in let more = first_least z xs h.1 y i in omega arith

-- to each number of a list belongs one of another that is no greater, and greater than those before
abbrev AreBetween : List ℕ → List ℕ → Type 0
AreBetween xs ys = (x : ℕ) → IsIn x xs → (y : ℕ) × IsIn y ys × (y ≤ x) × ((z : ℕ) → IsIn z xs → z < x → z < y)

no_fewer : (xs ys : List ℕ) → Ascends xs → Ascends ys → AreBetween xs ys → length xs ≤ length ys
no_fewer [] ys up over between = omega arith
no_fewer (x ∷ xs) [] up over between = (let (y, none, le, past) = between x (inl refl) in absurd none)
no_fewer (x ∷ xs) (y ∷ ys) up over between =
    let (first, is, le, above) = between x (inl refl) in
    let least : y ≤ x = elim is [ inl e ↦ omega arith | inr i ↦ (let less = first_least y ys over first i in omega arith) ] in
    let rest = no_fewer xs ys (ascends_rest x xs up) (ascends_rest y ys over) (λ w i.
    (let (v, in_all, no_more, past) = between w (inr i) in
    let behind : x < v = past x (inl refl) (first_least x xs up w i) in
    let in_rest : IsIn v ys = elim in_all [ inl e ↦ absurd (omega arith) | inr j ↦ j ] in
    (v, in_rest, no_more, λ z j less. past z (inr j) less))) in
    omega arith

-- a wait among the rounds behind one up to another, if there is one
wait_between : (waits : List ℕ) (a b : ℕ) → ((k : ℕ) × (a < k) × (k ≤ b) × IsWait waits k) ⊎ ((k : ℕ) → a < k → k ≤ b → ¬ IsWait waits k)
wait_between waits a zero = inr (λ k above below. absurd (omega arith))
wait_between waits a (suc b) =
    elim (wait_between waits a b) [
      | inl found ↦ (let (k, above, below, wait) = found in inl (k, above, (omega arith), wait))
      | inr none ↦ elim (cases_lt a (suc b)) [
        | inl less ↦ elim (in_or_not (suc (suc b)) waits) [
          | inl wait ↦ inl (suc b, less, (omega arith), wait)
          | inr lacks ↦ inr (λ k above below. elim (cases_eq k (suc b)) [
            | inl e ↦ subst (λ n. ¬ IsWait waits n) (sym e) lacks
            | inr ne ↦ none k above (omega arith)
          ])
        ]
        | inr ge ↦ inr (λ k above below. absurd (omega arith))
      ]
    ]

module _ (P : Span → Type 0) (parts : (part span : Span) → IsPart part span → P span → P part) (rounds : ℕ) where
  -- rounds without a wait of a cut between them lie in one span of it
  in_one_span : (others : List ℕ) → ((span : Span) → IsSpan others rounds span → P span) → (a b : ℕ) → a ≤ b → b < rounds → ((k : ℕ) → a < k → k ≤ b → ¬ IsWait others k) → P (record { first = a; last = b })
  in_one_span others each a b le less none =
      let (span, is, has) = span_of others rounds a (omega arith) in
      let past : b ≤ span.last = elim (cases_lt span.last b) [
        | inl sooner ↦ elim is.no_later [
          | inl e ↦ absurd (omega arith)
          | inr wait ↦ absurd (none (suc span.last) (let h = has.1 in omega arith) (omega arith) wait)
        ]
        | inr ge ↦ ge
      ] in
      parts (record { first = a; last = b }) span (has.0, past) (each span is)

  -- so between a wait of a cut whose spans can't be longer and the one before lies one of any other cut
  between_waits : (waits others : List ℕ) → AreWaits waits rounds
      → ((span : Span) → IsSpan waits rounds span → suc span.last < rounds → ¬ P (record { first = span.first; last = suc span.last }))
      → ((span : Span) → IsSpan others rounds span → P span) → AreBetween waits others
  between_waits waits others are no_longer each zero i = absurd (let h = each_at (λ w. 2 ≤ w) waits zero are.behind_first i in omega arith)
  between_waits waits others are no_longer each (suc zero) i = absurd (let h = each_at (λ w. 2 ≤ w) waits (suc zero) are.behind_first i in omega arith)
  between_waits waits others are no_longer each (suc (suc r)) i =
      let within : suc (suc r) ≤ rounds = each_at (λ w. w ≤ rounds) waits (suc (suc r)) are.within i in
      let (span, is, has) = span_of waits rounds r (omega arith) in
      let ends : span.last ≡ r = elim (cases_lt r span.last) [
        | inl more ↦ absurd (is.unbroken (suc r) (let h = has.0 in omega arith) (omega arith) i)
        | inr ge ↦ (let h = has.1 in omega arith)
      ] in
      elim (wait_between others span.first (suc span.last)) [
        | inl found ↦ (
            let (k, above, below, wait) = found in (
              suc k,
              wait,
              (omega arith),
              λ z j less. elim (cases_lt (suc span.first) z) [
                | inl later ↦ absurd (is.unbroken (z - 1) (omega arith) (omega arith) (subst (λ n. IsIn n waits) (let e : z ≡ suc (z - 1) = omega arith in e) j))
                | inr ge ↦ omega arith
              ],
            ))
        | inr none ↦ absurd (no_longer span is (omega arith) (in_one_span others each span.first (suc span.last) (let h = is.ascends in omega arith) (omega arith) none))
      ]

  fewest : (waits others : List ℕ) → AreWaits waits rounds → AreWaits others rounds
      → ((span : Span) → IsSpan waits rounds span → suc span.last < rounds → ¬ P (record { first = span.first; last = suc span.last }))
      → ((span : Span) → IsSpan others rounds span → P span) → length waits ≤ length others
  fewest waits others are others_are no_longer each = no_fewer waits others are.ascending others_are.ascending (between_waits waits others are no_longer each)

-- what can be certified can be so in parts
safe_part : (t : Task) (evidence : Evidence) (part span : Span) → IsPart part span → (class : Class) → CanBeSafeInSpan t evidence span class → CanBeSafeInSpan t evidence part class
safe_part t (Ordered evidence) part span is class (numbers, sets, safe) = (
  numbers,
  sets,
  safe_in_part (rollout t) part span is class.first class.entry (duties_of t.update.demands class.entry class.first) numbers sets safe,
)
safe_part t (TwoPhase evidence) part span is class whole = two_phase_part (rollout t) t.update.new evidence part span class.first class.entry is whole

part_can_be : (t : Task) (evidence : Evidence) (part span : Span) → IsPart part span → CanBeCertified t evidence span → CanBeCertified t evidence part
part_can_be t evidence part span is can n class of_class = safe_part t evidence part span is class (can n class of_class)

pub fewest_ordered : (t : Task) (evidence other : OrderedEvidence) (waits others : List ℕ) → IsGreedyCut t (Ordered evidence) waits → AreWaits others (length t.rounds)
    → IsCertifiedWithWaits t (Ordered other) others → length waits ≤ length others
fewest_ordered t evidence other waits others greedy are certified =
    fewest (CanBeCertified t (Ordered evidence)) (part_can_be t (Ordered evidence)) (length t.rounds) waits others greedy.are_waits are greedy.no_longer
    (λ span is n class of_class. (let c = certified.certificates span n class is of_class in (c.numbers, c.sets, c.safe)))

pub fewest_two_phase : (t : Task) (evidence : TwoPhaseEvidence) (waits others : List ℕ) → IsGreedyCut t (TwoPhase evidence) waits → AreWaits others (length t.rounds)
    → IsCertifiedWithWaits t (TwoPhase evidence) others → length waits ≤ length others
fewest_two_phase t evidence waits others greedy are certified =
    fewest (CanBeCertified t (TwoPhase evidence)) (part_can_be t (TwoPhase evidence)) (length t.rounds) waits others greedy.are_waits are greedy.no_longer
    (λ span is n class of_class. certified.certificates span n class is of_class)
