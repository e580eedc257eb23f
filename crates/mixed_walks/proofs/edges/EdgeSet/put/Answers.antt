use Rattle.std.proofs.Common.{◌≡◌, ◌↔◌, ◌⊎◌, ◌<◌, ◌≤◌, true, false, ◌∷◌, ◌++◌, [], List, length, get_or, set, sym, ◌∙◌, subst, vec_capacity, arith}
use Rattle.std.specs.List.{AllByRecursion}
use Rattle.net_base.specs.Members.{IsIn}
use Rattle.net_base.proofs.MemberLaws.{each_append, each_at}
use Rattle.acyclic_numbering.specs.declared.Edge.{Edge}
use Rattle.mixed_walks.specs.Marked.{IsMarked, edge_number, IsNear}
use Rattle.mixed_walks.proofs.MarkedLaws.{read_mark, marked_put, room_for, in_push, in_still, marked_member, edge_told}
use Rattle.mixed_walks.proofs.edges.EdgeSet.put.Goals as goal

pub push_reserved-requires : goal.push_reserved-requires
push_reserved-requires c =
    let list = c.self.inside.list in
    let marks = c.self.inside.marks.items in
    let n = c.edge_number-number.result in
    let is = c.edge_number-number.ensures.number in
    let within : n < length marks = let k = c.self.invariant.0.count in let r = c.edge_number-number.ensures.within in omega arith in
    let unmarked : get_or marks n false ≡ false = read_mark marks n c.index.result.now within c.index.ensures ∙ c.if-not-index.true in
    let room = room_for edge_number 16384 list.items (vec_capacity list) marks c.self.invariant.0 c.args.edge
    (subst (λ m. m < 16384) is c.edge_number-number.ensures.within) (subst (λ m. get_or marks m false ≡ false) is unmarked) in
    let len = list.ok.0 in
    omega arith

pub invariant_of-self : goal.invariant_of-self
invariant_of-self c =
    let list = c.self.inside.list in
    let marks = c.self.inside.marks.items in
    let n = c.edge_number-number.result in
    let is = c.edge_number-number.ensures.number in
    let within : n < length marks = let k = c.self.invariant.0.count in let r = c.edge_number-number.ensures.within in omega arith in
    let unmarked : get_or marks n false ≡ false = read_mark marks n c.index.result.now within c.index.ensures ∙ c.if-not-index.true in
    let room : vec_capacity list ≤ vec_capacity c.push_reserved.new.self = let e = c.push_reserved.ensures.capacity in omega arith in
    subst (λ (xs : List Edge). IsMarked edge_number 16384 xs (vec_capacity c.push_reserved.new.self) (set marks n true) × AllByRecursion IsNear xs) (sym c.push_reserved.ensures.items) (
      subst (λ m. IsMarked edge_number 16384 (list.items ++ c.args.edge ∷ []) (vec_capacity c.push_reserved.new.self) (set marks m true)) (sym is)
          (marked_put edge_number 16384 list.items (vec_capacity list) marks c.self.invariant.0 c.args.edge (subst (λ m. m < 16384) is c.edge_number-number.ensures.within)
          (subst (λ m. get_or marks m false ≡ false) is unmarked) (vec_capacity c.push_reserved.new.self) room),
      each_append IsNear list.items (c.args.edge ∷ []) c.self.invariant.1 (c.requires, tt),
    )

pub returns-then-not-index : goal.returns-then-not-index
returns-then-not-index c e =
    subst (λ (xs : List Edge). IsIn e xs ↔ (IsIn e c.args.self.now ⊎ (e ≡ c.args.edge))) (sym c.push_reserved.ensures.items)
    (subst (λ (xs : List Edge). IsIn e (c.self.inside.list.items ++ c.args.edge ∷ []) ↔ (IsIn e xs ⊎ (e ≡ c.args.edge))) c.self.view_is
    (in_push c.self.inside.list.items c.args.edge e))

pub returns-else-not-index : goal.returns-else-not-index
returns-else-not-index c e =
    let list = c.self.inside.list in
    let marks = c.self.inside.marks.items in
    let n = c.edge_number-number.result in
    let is = c.edge_number-number.ensures.number in
    let within : n < length marks = let k = c.self.invariant.0.count in let r = c.edge_number-number.ensures.within in omega arith in
    let is_marked : get_or marks n false ≡ true = read_mark marks n c.index.result.now within c.index.ensures ∙ c.if-not-index.false in
    let is_in : IsIn c.args.edge list.items =
    marked_member edge_number 16384 list.items (vec_capacity list) marks c.self.invariant.0 c.args.edge
    (λ y i same. edge_told c.args.edge y c.requires (each_at IsNear list.items y c.self.invariant.1 i) same)
    (subst (λ m. get_or marks m false ≡ true) is is_marked) in
    in_still c.args.self.now c.args.edge e (subst (λ (xs : List Edge). IsIn c.args.edge xs) c.self.view_is is_in)
