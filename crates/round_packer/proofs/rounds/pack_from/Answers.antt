use Rattle.std.proofs.Common.{Bool, List, [], sym, subst, arith}
use Rattle.std.proofs.lemmas.Result.{IfOk-weaker}
use Rattle.flow_rules.specs.Tables.{rules_of_all}
use Rattle.flow_rules.specs.declared.rules.Rule.{Rule}
use Rattle.update_model.specs.declared.Change.{Change}
use Rattle.certificates.specs.Rounds.{one_round_of}
use Rattle.check_reasons.specs.Loaded.{AreLoaded}
use Rattle.round_mix.specs.Prepared.{MixedState}
use Rattle.mixed_walks.proofs.PlaceLaws.{tables_keep}
use Rattle.round_packer.specs.Kept.{AreJudged, ArePreparedFor}
use Rattle.round_packer.specs.Filling.{IsPackedTo, EndsAt}
use Rattle.round_packer.proofs.FillLaws.{prepared_here}
use Rattle.round_packer.proofs.PackLaws.{packed_first, ends_unsafe, told_empty, told_some}
use Rattle.round_packer.proofs.rounds.pack_from.Goals as goal

pub all_safe-requires-clause-prepared : goal.all_safe-requires-clause-prepared
all_safe-requires-clause-prepared c =
    let net = c.args.goal.now.net in
    let p = c.args.trial.now in (
      rules_of_all p.tables,
      [],
      prepared_here net c.mixes.result.now (rules_of_all p.tables) [] (tables_keep net (rules_of_all p.tables) c.requires.old) tt
          (subst (λ (cs : List Change). AreLoaded (one_round_of net (rules_of_all p.tables) cs) 0 c.mixes.result.now) c.requires.none (subst (λ (ms : List MixedState). AreLoaded (one_round_of net (rules_of_all p.tables) p.round) 0 ms) (sym c.mixes.ensures) c.requires.trial.loaded)),
    )

pub pack_rounds-requires : goal.pack_rounds-requires
pack_rounds-requires c =
    let to = c.args.goal.now in
    let net = c.args.goal.now.net in
    let p = c.args.trial.now in
    let prepared : ArePreparedFor net c.mixes.result.now (rules_of_all p.tables) [] =
    prepared_here net c.mixes.result.now (rules_of_all p.tables) [] (tables_keep net (rules_of_all p.tables) c.requires.old) tt
    (subst (λ (cs : List Change). AreLoaded (one_round_of net (rules_of_all p.tables) cs) 0 c.mixes.result.now) c.requires.none (subst (λ (ms : List MixedState). AreLoaded (one_round_of net (rules_of_all p.tables) p.round) 0 ms) (sym c.mixes.ensures) c.requires.trial.loaded)) in
    let kept = subst (AreJudged to (rules_of_all p.tables) [] c.all_safe.new.watch.came.items) c.if-branch.true (c.in_ok-all_safe.ensures (rules_of_all p.tables) [] prepared) in
    record { packed = (rules_of_all p.tables, packed_first to p c.all_safe.new.watch.came.items c.args.looked.now c.requires.trial c.requires.none c.requires.old kept c.requires.atoms c.args.rounds.now c.requires.rounds) }

pub returns-then-branch : goal.returns-then-branch
returns-then-branch c =
    let to = c.args.goal.now in
    let net = c.args.goal.now.net in
    let p = c.args.trial.now in
    let came = c.all_safe.new.watch.came.items in
    let prepared : ArePreparedFor net c.mixes.result.now (rules_of_all p.tables) [] =
    prepared_here net c.mixes.result.now (rules_of_all p.tables) [] (tables_keep net (rules_of_all p.tables) c.requires.old) tt
    (subst (λ (cs : List Change). AreLoaded (one_round_of net (rules_of_all p.tables) cs) 0 c.mixes.result.now) c.requires.none (subst (λ (ms : List MixedState). AreLoaded (one_round_of net (rules_of_all p.tables) p.round) 0 ms) (sym c.mixes.ensures) c.requires.trial.loaded)) in
    let kept = subst (AreJudged to (rules_of_all p.tables) [] came) c.if-branch.true (c.in_ok-all_safe.ensures (rules_of_all p.tables) [] prepared) in
    IfOk-weaker c.pack_rounds.result (λ (none : Bool). (old : List (List Rule)) → IsPackedTo to old c.args.rounds.now p came c.args.looked.now → EndsAt to old c.pack_rounds.new.rounds none)
    (EndsAt to (rules_of_all p.tables) c.pack_rounds.new.rounds)
    (λ none ends. ends (rules_of_all p.tables) (packed_first to p came c.args.looked.now c.requires.trial c.requires.none c.requires.old kept c.requires.atoms c.args.rounds.now c.requires.rounds))
    c.pack_rounds.ensures

pub returns : goal.returns
returns c =
    let to = c.args.goal.now in
    let net = c.args.goal.now.net in
    let p = c.args.trial.now in
    let came = c.all_safe.new.watch.came.items in
    let prepared : ArePreparedFor net c.mixes.result.now (rules_of_all p.tables) [] =
    prepared_here net c.mixes.result.now (rules_of_all p.tables) [] (tables_keep net (rules_of_all p.tables) c.requires.old) tt
    (subst (λ (cs : List Change). AreLoaded (one_round_of net (rules_of_all p.tables) cs) 0 c.mixes.result.now) c.requires.none (subst (λ (ms : List MixedState). AreLoaded (one_round_of net (rules_of_all p.tables) p.round) 0 ms) (sym c.mixes.ensures) c.requires.trial.loaded)) in
    let unsafe = subst (AreJudged to (rules_of_all p.tables) [] came) c.if-branch.false (c.in_ok-all_safe.ensures (rules_of_all p.tables) [] prepared) in
    subst (λ (rs : List (List Change)). EndsAt to (rules_of_all p.tables) rs c.is_empty.result) (sym c.requires.rounds)
    (ends_unsafe to (rules_of_all p.tables) unsafe c.in_ok-left.left.items c.in_ok-left.ensures c.is_empty.result (told_empty c.in_ok-left.left.items c.in_ok-left.left.len c.is_empty.result (omega arith) c.is_empty.ensures)
    (told_some c.in_ok-left.left.items c.in_ok-left.left.len c.is_empty.result (omega arith) c.is_empty.ensures))
