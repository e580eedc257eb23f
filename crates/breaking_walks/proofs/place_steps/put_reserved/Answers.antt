use Rattle.std.proofs.Common.{refl}
use Rattle.breaking_walks.proofs.StepLaws.{put_behind, stored_is}
use Rattle.breaking_walks.proofs.place_steps.put_reserved.Goals as goal

pub returns-clause-number : goal.returns-clause-number
returns-clause-number c steps =
    let place = c.args.place in
    let old = c.args.places.now.keys in
    let keys = c.insert_full.new.self.keys in
    let (more, behind, each) = put_behind place old keys c.in-Ok.ensures.keys in
    record {
      more = more;
      behind = behind;
      each = each;
      stands = record { at = stored_is place keys c.in-Ok.number c.in-Ok.ensures.stored; switch_is = refl };
      steps = refl;
    }
