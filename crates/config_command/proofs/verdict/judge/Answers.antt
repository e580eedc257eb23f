use Rattle.std.proofs.Common.{◌∙◌, refl}
use Rattle.std.proofs.lemmas.Result.{IfOk-weaker}
use Rattle.flow_rules.specs.Tables.{rules_of_all}
use Rattle.command_base.specs.Replies.{answer_of}
use Rattle.config_command.proofs.VerdictLaws.{prefixed, holds_law, breaks_law, break_fits, good_of, count_is}
use Rattle.config_command.proofs.verdict.judge.Goals as goal

pub classes_speak_for_addresses-requires-clause-prefixes :
    goal.classes_speak_for_addresses-requires-clause-prefixes
classes_speak_for_addresses-requires-clause-prefixes c = prefixed c.args.net.now (rules_of_all c.args.config.now) c.args.demands.now c.args.classed.now.map c.requires.classed.map

pub returns-in-Ok : goal.returns-in-Ok
returns-in-Ok c =
    let good = c.in-Ok.ensures.ok.0 refl in
    let everywhere = c.classes_speak_for_addresses.ensures (good_of c.args.net.now (rules_of_all c.args.config.now) c.args.demands.now c.args.classed.now.map c.args.classed.now.duties c.requires.classed.duties good) in
    IfOk-weaker c.holds_reply.result _ _
    (λ r is. holds_law c.args.net.now (rules_of_all c.args.config.now) c.args.demands.now c.args.classed.now.map c.requires.classed.map c.args.classed.now.duties c.requires.classed.duties c.requires.classed.few (answer_of r)
    good everywhere (is ∙ count_is c.count.result c.args.classed.now.map c.count.ensures.count))
    c.holds_reply.ensures

pub class-requires : goal.class-requires
class-requires c = break_fits c.args.net.now (rules_of_all c.args.config.now) c.args.classed.now.duties.demands c.args.classed.now.map c.in-Err.breaks c.in-Err.ensures.err

pub returns : goal.returns
returns c =
    IfOk-weaker c.breaks_reply.result _ _
    (λ r is. breaks_law c.args.net.now (rules_of_all c.args.config.now) c.args.demands.now c.args.classed.now.map c.requires.classed.map c.args.classed.now.duties c.requires.classed.duties c.requires.classed.few (answer_of r)
    c.in-Err.breaks c.class.result (λ good. let e = c.in-Err.ensures.ok.1 good in cc) c.in-Err.ensures.err c.class.ensures.is is)
    c.breaks_reply.ensures
