use Rattle.std.proofs.Common.{ℕ, List, [], ◌∷◌, ◌++◌, ap, sym, subst, arith}
use Rattle.openflow10.specs.Layout.{number_bytes}
use Rattle.openflow10.specs.Messages.{wire_text, BeginsWith}
use Rattle.openflow10.specs.declared.Message.TheVariants.{BarrierRequest}
use Rattle.openflow10.proofs.MessageLaws.{begins}
use Rattle.openflow10.proofs.writing.encode_barrier.Goals as goal

pub returns-clause-text : goal.returns-clause-text
unfolding wire_text number_bytes
returns-clause-text c = ap (λ (t : List ℕ). 1 ∷ 18 ∷ 0 ∷ 8 ∷ (t ++ [])) c.write_u32.ensures

pub returns-clause-read_back : goal.returns-clause-read_back
returns-clause-read_back c = λ rest.
    subst (λ (t : List ℕ). BeginsWith (t ++ rest) (BarrierRequest c.args.xid) 8) (sym (returns-clause-text c)) (begins (BarrierRequest c.args.xid) rest (omega arith))
