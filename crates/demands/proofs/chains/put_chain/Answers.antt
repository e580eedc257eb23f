use Rattle.std.proofs.Common.{◌≡◌, ◌<◌, true, length, get_or, [], ap, sym, ◌∙◌, arith}
use Rattle.std.specs.List.{insert}
use Rattle.demands.specs.Chains.{leading_count}
use Rattle.demands.specs.Duties.{chain_lt}
use Rattle.demands.proofs.ChainLaws.{puts_none, puts_there, leading_within, read_at}
use Rattle.demands.proofs.chains.put_chain.Goals as goal
use Rattle.demands.proofs.chains.put_chain.Goals.{else-place-len-via-then-place-len+else-not-is_before, else-place-len-via-else-place-len}

pub returns-then-not-is_before : goal.returns-then-not-is_before
returns-then-not-is_before c =
    let cs = c.args.chains.now.items in
    let place : c.count_before-place.result ≡ leading_count c.args.chain cs = c.count_before-place.ensures ∙ ap (λ xs. leading_count c.args.chain xs) c.deref.ensures.value in
    let len : c.len.result ≡ length cs = c.len.ensures ∙ c.args.chains.now.ok.0 in
    let within : leading_count c.args.chain cs < length cs = let t = c.if-place-len.true in omega arith in
    let at : c.index.result.now ≡ get_or cs (leading_count c.args.chain cs) c.index.result.now = c.index.ensures ∙ ap (λ n. get_or cs n c.index.result.now) place in
    sym (puts_none c.args.chain cs c.index.result.now (sym c.is_empty.ensures ∙ c.if-is_empty.false) within
    (ap (λ x. chain_lt c.args.chain x) (sym at) ∙ sym c.is_before.ensures ∙ c.if-not-is_before.true))

pub insert-requires : goal.insert-requires
insert-requires c =
    let cs = c.args.chains.now.items in
    let place : c.count_before-place.result ≡ leading_count c.args.chain cs = c.count_before-place.ensures ∙ ap (λ xs. leading_count c.args.chain xs) c.deref.ensures.value in
    let low = leading_within c.args.chain cs in
    let len = c.args.chains.now.ok.0 in
    omega arith

pub returns : goal.returns
returns c =
    let cs = c.args.chains.now.items in
    let place : c.count_before-place.result ≡ leading_count c.args.chain cs = c.count_before-place.ensures ∙ ap (λ xs. leading_count c.args.chain xs) c.deref.ensures.value in
    let len : c.len.result ≡ length cs = c.len.ensures ∙ c.args.chains.now.ok.0 in
    let premise : leading_count c.args.chain cs < length cs → chain_lt c.args.chain (get_or cs (leading_count c.args.chain cs) []) ≡ true =
    elim c.else-place-len.branch [
      | else-place-len-via-then-place-len+else-not-is_before w ↦ λ lt.
          let at : w.index.result.now ≡ get_or cs (leading_count c.args.chain cs) w.index.result.now = w.index.ensures ∙ ap (λ n. get_or cs n w.index.result.now) place in
          ap (λ x. chain_lt c.args.chain x) (read_at cs (leading_count c.args.chain cs) w.index.result.now [] lt at) ∙ sym w.is_before.ensures ∙ w.if-not-is_before.false
      | else-place-len-via-else-place-len w ↦ λ lt. let past = w.if-place-len.false in absurd (omega arith)
    ] in
    c.in_ok-insert.ensures.items ∙ ap (λ n. insert cs n c.args.chain) place ∙ sym (puts_there c.args.chain cs [] (sym c.is_empty.ensures ∙ c.if-is_empty.false) premise)
