use Rattle.std.proofs.Common.{◌∷◌, sym, subst}
use Rattle.std.proofs.lemmas.Result.{on_ok_weaker}
use Rattle.json.specs.Token.{begin_object}
use Rattle.serde_json.specs.Data.{Members}
use Rattle.plan_text.specs.Tokens.{closed_tokens, Adds}
use Rattle.plan_text.proofs.Adding.{and_more, token_added}
use Rattle.plan_text.proofs.Order.{word_is}
use Rattle.plan_text.proofs.write_changes.write_worded.Goals as goal

pub returns : goal.returns
returns c =
    on_ok_weaker c.write_rule_members.result (λ e.
    subst (λ (ms : Members). Adds c.args.out.now c.write_rule_members.new.out (begin_object ∷ closed_tokens ms)) (sym (word_is c.args.net.now c.args.word.now c.args.placed.now))
    (and_more (token_added c.in_ok-begin_object.ensures) (and_more c.in_ok-write_text_at.ensures e))) c.write_rule_members.ensures
