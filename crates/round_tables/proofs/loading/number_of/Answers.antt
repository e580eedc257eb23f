use Rattle.std.proofs.Common.{◌≡◌, ℕ, length, take, true, sym, ◌∙◌, ap, arith}
use Rattle.std.specs.Prelude.{slice_get, ◌==◌}
use Rattle.std.proofs.lemmas.Bool.{eq-eqb}
use Rattle.net_base.specs.declared.ids.SwitchId.{SwitchId}
use Rattle.update_model.specs.Changes.{switch_of, changes_at}
use Rattle.update_model.specs.declared.Change.{Change}
use Rattle.round_tables.proofs.LoadLaws.{nth_place}
use Rattle.round_tables.proofs.loading.number_of.Goals as goal

pub returns-then-left-eq0-clause-at : goal.returns-then-left-eq0-clause-at
returns-then-left-eq0-clause-at c =
    let round = c.args.round.now in
    let i = c.loop-i.i in
    let passes : ((switch_of c.index-round-i.result).0 == c.args.switch.0) ≡ true = eq-eqb _ _ (sym (ap (λ (s : SwitchId). s.0) c.switch.ensures) ∙ c.if-switch.true) in
    let place = nth_place (λ (d : Change). (switch_of d).0 == c.args.switch.0) round i c.index-round-i.result c.loop-i-test.true c.index-round-i.is passes in
    let count : length (changes_at c.args.switch (take i round)) ≡ c.args.nth = omega arith in
    place.0 ∙ ap (slice_get (changes_at c.args.switch round)) count

pub returns-then-left-eq0-clause-before : goal.returns-then-left-eq0-clause-before
returns-then-left-eq0-clause-before c =
    let round = c.args.round.now in
    let i = c.loop-i.i in
    let passes : ((switch_of c.index-round-i.result).0 == c.args.switch.0) ≡ true = eq-eqb _ _ (sym (ap (λ (s : SwitchId). s.0) c.switch.ensures) ∙ c.if-switch.true) in
    let place = nth_place (λ (d : Change). (switch_of d).0 == c.args.switch.0) round i c.index-round-i.result c.loop-i-test.true c.index-round-i.is passes in
    let count : length (changes_at c.args.switch (take i round)) ≡ c.args.nth = omega arith in
    place.1 ∙ ap (λ (n : ℕ). take n (changes_at c.args.switch round)) count
