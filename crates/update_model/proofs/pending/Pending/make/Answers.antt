use Rattle.std.proofs.Common.{◌≡◌, ◌<◌, true, false, Bool, List, sym, subst, arith}
use Rattle.std.specs.Prelude.{slice_get, Some}
use Rattle.net_base.proofs.ItemLaws.{past_end}
use Rattle.update_model.proofs.CountLaws.{counted_set}
use Rattle.update_model.proofs.pending.Pending.make.Goals as goal

pub overflow_sub-self : goal.overflow_sub-self
overflow_sub-self c =
    let at : slice_get c.self.inside.flags.items c.args.i ≡ Some true = subst (λ (l : List Bool). slice_get l c.args.i ≡ Some true) (sym c.self.view_is) c.requires in
    omega (arith, c.self.invariant, counted_set (λ on. on) c.self.inside.flags.items c.args.i true false at)

pub index_mut-requires : goal.index_mut-requires
index_mut-requires c =
    let at : slice_get c.self.inside.flags.items c.args.i ≡ Some true = subst (λ (l : List Bool). slice_get l c.args.i ≡ Some true) (sym c.self.view_is) c.requires in
    subst (λ n. c.args.i < n) (sym c.self.inside.flags.ok.0) (past_end c.self.inside.flags.items c.args.i true at)

pub invariant_of-self : goal.invariant_of-self
invariant_of-self c =
    let at : slice_get c.self.inside.flags.items c.args.i ≡ Some true = subst (λ (l : List Bool). slice_get l c.args.i ≡ Some true) (sym c.self.view_is) c.requires in
    omega (arith, c.self.invariant, counted_set (λ on. on) c.self.inside.flags.items c.args.i true false at)
