use Rattle.std.proofs.Common.{List, ◌++◌, ap, ◌∙◌, arith}
use Rattle.std.specs.Prelude.{[], ◌∷◌}
use Rattle.switch_session.specs.Channels.{hello}
use Rattle.two_way_driver.specs.declared.DriverOutput.{DriverOutput}
use Rattle.two_way_driver.specs.declared.DriverOutput.TheVariants.{Send}
use Rattle.two_way_driver.proofs.StepLaws.{said_one, words_split}
use Rattle.two_way_driver.proofs.talks.hello_to_all.Goals as goal

pub loop-number-preserved : goal.loop-number-preserved
loop-number-preserved c =
    let n = c.loop-number.number in
    let one : List DriverOutput = Send (record { 0 = n }) hello ∷ [] in
    said_one c.loop-number.said.items c.push.new.self.items _ one _ _ (c.in_ok-push.ensures.items ∙ ap (λ (x : DriverOutput). c.loop-number.said.items ++ x ∷ []) c.in_ok-hello_to.ensures) (words_split n c.args.switches (omega arith)) c.loop-number.invariant
