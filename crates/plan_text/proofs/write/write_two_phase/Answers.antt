use Rattle.plan_text.proofs.Adding.{and_more, token_added}
use Rattle.plan_text.proofs.write.write_two_phase.Goals as goal

pub returns : goal.returns
returns c =
    and_more c.in_ok-write_number_at.ensures (and_more c.in_ok-write_text_at.ensures (and_more c.in_ok-write_list_at.ensures (and_more c.in_ok-write_list_at-2.ensures
    (and_more c.in_ok-write_rounds_at.ensures (and_more c.in_ok-write_rules_at.ensures (and_more c.in_ok-write_tried.ensures (token_added c.in_ok-end_object.ensures)))))))
