use Rattle.std.proofs.Common.{◌≡◌, ◌+◌, length, get_or, ap, arith}
use Rattle.flow_rules.specs.Tables.{rules_at}
use Rattle.update_model.specs.Changes.{changes_at, round_after}
use Rattle.update_model.specs.Mixtures.{tables_before, entries_needed}
use Rattle.round_mix.specs.Found.{OutcomesState}
use Rattle.breaking_walks.specs.Rounds.{round_rollout}
use Rattle.breaking_walks.proofs.RoundLaws.{prepared_read, is_prepared, marks_count}
use Rattle.breaking_walks.proofs.round.possible.Goals as goal

pub most_entries-requires : goal.most_entries-requires
most_entries-requires c =
    let round = c.args.round in
    let s = c.args.place.switch in
    let mixed = get_or round.mixes.now s.0 c.index-round-place.result in
    is_prepared (rules_at (tables_before (round_rollout round) round.number) s) (changes_at s (round_after round.number round.rounds.now)) mixed.prepared
    (prepared_read round c.requires.prepared s c.requires.within c.index-round-place.result)

pub possible-requires-clause-prepared : goal.possible-requires-clause-prepared
possible-requires-clause-prepared c =
    let round = c.args.round in
    let s = c.args.place.switch in
    let mixed = get_or round.mixes.now s.0 c.index-round-place.result in
    is_prepared (rules_at (tables_before (round_rollout round) round.number) s) (changes_at s (round_after round.number round.rounds.now)) mixed.prepared
    (prepared_read round c.requires.prepared s c.requires.within c.index-round-place.result)

pub possible-requires-clause-room : goal.possible-requires-clause-room
possible-requires-clause-room c marks is =
    let round = c.args.round in
    let s = c.args.place.switch in
    let table = rules_at (tables_before (round_rollout round) round.number) s in
    let changes = changes_at s (round_after round.number round.rounds.now) in
    let mixed = get_or round.mixes.now s.0 c.index-round-place.result in
    let prepared = prepared_read round c.requires.prepared s c.requires.within c.index-round-place.result in
    let most : c.most_entries.result ≡ entries_needed table changes = c.most_entries.ensures table changes prepared in
    let count : length marks ≡ entries_needed table changes = marks_count table changes mixed.prepared prepared marks is in
    let spare = ap (λ (o : OutcomesState). length o.list + o.spare) c.in_ok-out.ensures in
    omega (arith, spare)

pub returns : goal.returns
returns c =
    let round = c.args.round in
    let s = c.args.place.switch in
    c.possible.ensures.exact (rules_at (tables_before (round_rollout round) round.number) s) (changes_at s (round_after round.number round.rounds.now))
    (prepared_read round c.requires.prepared s c.requires.within c.index-round-place.result)
