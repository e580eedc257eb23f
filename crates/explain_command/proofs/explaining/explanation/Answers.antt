use Rattle.certificates.specs.Updates.{rollout, task_for}
use Rattle.std.proofs.Common.{ap, inr, rules}
use Rattle.demands.specs.Duties.{ClassDuties}
use Rattle.certificates.specs.Certified.{classes_for}
use Rattle.command_base.specs.Updates.{meaning_of}
use Rattle.explain_command.proofs.EndLaws.{none_of}
use Rattle.explain_command.proofs.explaining.explanation.Goals as goal

pub returns-in_ok-to_vec-in-Nothing : goal.returns-in_ok-to_vec-in-Nothing
returns-in_ok-to_vec-in-Nothing c =
    let t = task_for (meaning_of c.args.files.now) c.args.plan.now in
    inr (record {
      none =
          none_of (rollout t) c.args.room.now.classed.duties.demands t.update.demands c.args.room.now.classed.map (classes_for t)
          (ap (λ (d : ClassDuties). d.demands) c.requires.fits.classed.duties) c.requires.fits.classed.map
          (rw c.in-Nothing.is at c.in_ok-events.ensures.answer);
      text_is = search rules;
    })
