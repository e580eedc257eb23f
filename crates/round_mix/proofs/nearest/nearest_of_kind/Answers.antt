use Rattle.std.proofs.Common.{◌≡◌, ◌+◌, ◌-◌, ◌<◌, ◌≤◌, ℕ, length, get_or, refl, sym, ◌∙◌, subst, ap, inl, inr, arith}
use Rattle.std.specs.Prelude.{Option}
use Rattle.std.proofs.lemmas.Bool.{cases_lt, false≢true}
use Rattle.path_walk.specs.Outcomes.{header_at}
use Rattle.flow_rules.specs.Tuples.{pattern_around, slot_of, slots_of, link_number}
use Rattle.flow_rules.proofs.SearchLaws.{step_same}
use Rattle.round_mix.specs.Nearest.{IsNear}
use Rattle.round_mix.proofs.NearestLaws.{step_seen}
use Rattle.round_mix.proofs.nearest.nearest_of_kind.Goals as goal

less_link : (next now i : ℕ) → next ≤ i → now ≡ i + 1 → next < now
less_link next now i le is = omega arith

least : (j : ℕ) → 0 ≤ j
least j = omega arith

pub loop-at-init : goal.loop-at-init
loop-at-init c =
    let slots = slots_of c.args.space.now in
    let first = c.first-at.result in
    let count = c.requires.count in
    let within : link_number first ≤ length c.args.space.now.patterns = c.first-at.ensures.within in
    record {
      within = subst (λ (n : ℕ). link_number first ≤ n) count within;
      same = λ x e. (let more : link_number first ≡ x + 1 = ap link_number e in
          let less : x ≡ link_number first - 1 = omega arith in
          ap (λ (n : ℕ). get_or slots n 0) less ∙ c.first-at.ensures.same (omega arith));
      seen = λ k le e less. absurd (c.first-at.ensures.last k le (omega arith) e);
    }

pub loop-at-smaller : goal.loop-at-smaller
loop-at-smaller c =
    let now : link_number c.loop-at.at ≡ c.in-Some.back + 1 = ap link_number c.in-Some.is in
    let next : link_number c.after-at.result ≤ c.in-Some.back = c.after-at.ensures.within in
    less_link (link_number c.after-at.result) (link_number c.loop-at.at) c.in-Some.back next now

pub loop-at-preserved : goal.loop-at-preserved
loop-at-preserved c =
    let h = header_at c.args.packet.place c.args.packet.dst in
    let rules = c.args.rules.now in
    let from = c.args.from in
    let slots = slots_of c.args.space.now in
    let slot = slot_of c.args.space.now.count (pattern_around c.args.kind.now h) in
    let i = c.in-Some.back in
    let held = c.loop-at.invariant in
    let same : get_or slots i 0 ≡ slot = held.same i c.in-Some.is in
    let inside : i + 1 ≤ length rules = subst (λ (o : Option ℕ). link_number o ≤ length rules) c.in-Some.is held.within in
    let near = λ (k : ℕ). k < length rules → IsNear h rules from c.args.best (length rules - 1 - k) in
    let seen : (k : ℕ) → i + 1 ≤ k → get_or slots k 0 ≡ slot → near k =
    subst (λ (o : Option ℕ). (k : ℕ) → link_number o ≤ k → get_or slots k 0 ≡ slot → near k) c.in-Some.is held.seen in
    record {
      within = let w = c.after-at.ensures.within in omega arith;
      same = step_same slots slot i same c.after-at.result c.after-at.ensures;
      seen = step_seen slots slot i same c.after-at.result c.after-at.ensures near near (λ k x. x)
          (λ _ lo hit. absurd (false≢true (sym (c.is_met.ensures.no c.if-is_met.false lo) ∙ hit))) seen;
    }

-- a position of the slot is seen, or no nearer than the last one
pub returns-then-is_beaten-clause-slot : goal.returns-then-is_beaten-clause-slot
returns-then-is_beaten-clause-slot c k less e =
    let h = header_at c.args.packet.place c.args.packet.dst in
    let rules = c.args.rules.now in
    let i = c.in-Some.back in
    let inside : i + 1 ≤ length rules = subst (λ (o : Option ℕ). link_number o ≤ length rules) c.in-Some.is c.loop-at.invariant.within in
    let (b, is, le) = c.is_beaten.ensures.yes c.if-is_beaten.true in
    elim (cases_lt k (i + 1)) [
      | inl at ↦ λ lo hit. (b, is, omega arith)
      | inr past ↦ c.loop-at.invariant.seen k (subst (λ (o : Option ℕ). link_number o ≤ k) (sym c.in-Some.is) past) e less
    ]

pub returns-then-is_met-clause-met : goal.returns-then-is_met-clause-met
returns-then-is_met-clause-met c = c.is_met.ensures.yes c.if-is_met.true

pub returns-then-is_met-clause-kept : goal.returns-then-is_met-clause-kept
returns-then-is_met-clause-kept c j near lo hit =
    let (b, is, le) = near lo hit in
    let closer = c.is_beaten.ensures.no c.if-is_beaten.false b is in
    (length c.args.rules.now - 1 - c.in-Some.back, refl, omega arith)

pub returns-then-is_met-clause-slot : goal.returns-then-is_met-clause-slot
returns-then-is_met-clause-slot c k less e lo hit =
    let rules = c.args.rules.now in
    let i = c.in-Some.back in
    let p = length rules - 1 - i in
    let inside : i + 1 ≤ length rules = subst (λ (o : Option ℕ). link_number o ≤ length rules) c.in-Some.is c.loop-at.invariant.within in
    elim (cases_lt k (i + 1)) [
      | inl at ↦ (p, refl, omega arith)
      | inr past ↦
          let (b, is, le) = c.loop-at.invariant.seen k (subst (λ (o : Option ℕ). link_number o ≤ k) (sym c.in-Some.is) past) e less lo hit in
          let closer = c.is_beaten.ensures.no c.if-is_beaten.false b is in
          (p, refl, omega arith)
    ]

pub returns-clause-slot : goal.returns-clause-slot
returns-clause-slot c k less e = c.loop-at.invariant.seen k (subst (λ (o : Option ℕ). link_number o ≤ k) (sym c.in_default.is) (least k)) e less
