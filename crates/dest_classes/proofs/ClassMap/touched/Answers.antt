use Rattle.std.proofs.Common.{◌≡◌, ℕ, true, ◌^◌, ◌<◌, length, ap, ◌∙◌, subst, arith}
use Rattle.std.specs.Prelude.{◌↔◌, slice_index}
use Rattle.net_base.specs.Blocks.{Block, in_block}
use Rattle.dest_classes.specs.Classes.{ClassList}
use Rattle.dest_classes.specs.Atoms.{IsAmong}
use Rattle.dest_classes.specs.declared.AtomRange.{AtomRange}
use Rattle.dest_classes.proofs.TouchedLaws.{BeginsIn, among_block, among_address, among_class, some_among, few_atoms}
use Rattle.dest_classes.proofs.ClassMap.touched.Goals as goal
use Rattle.dest_classes.proofs.ClassMap.touched.Goals.{After-begun_before-2}

-- the range that the code computes
abbrev range : After-begun_before-2 → AtomRange
range c = record { from = c.begun_before.result; to = c.begun_before-2.result }

begins : (c : After-begun_before-2) → BeginsIn c.args.self.now.prefixes c.args.p (range c)
begins c =
    let xs = c.self.inside.atoms in
    subst (λ (m : ClassList). BeginsIn m.prefixes c.args.p (range c)) c.self.view_is
    (subst (λ ys. (i : ℕ) → i < length ys → IsAmong (range c) i ↔ (in_block c.args.p (slice_index ys i) ≡ true)) c.self.invariant.0
    (among_block xs c.args.p (range c)
    (subst (λ a. (i : ℕ) → i < length xs → (i < c.begun_before.result) ↔ (slice_index xs i < a)) (c.from.ensures ∙ ap (λ (b : Block). b.base) c.p.view_is) c.begun_before.ensures.each)
    (subst (λ a. (i : ℕ) → i < length xs → (i < c.begun_before-2.result) ↔ (slice_index xs i < a)) c.end_of.ensures c.begun_before-2.ensures.each)))

pub overflow_cast-result : goal.overflow_cast-result
overflow_cast-result c =
    let few = (few_atoms c.self.view_is c.self.invariant.0 c.self.invariant.1 c.requires.some).1 in
    let within = c.begun_before.ensures.within in
    omega arith

pub overflow_cast-result-2 : goal.overflow_cast-result-2
overflow_cast-result-2 c =
    let few = (few_atoms c.self.view_is c.self.invariant.0 c.self.invariant.1 c.requires.some).1 in
    let within = c.begun_before-2.ensures.within in
    omega arith

pub returns-clause-within : goal.returns-clause-within
returns-clause-within c =
    let count = (few_atoms c.self.view_is c.self.invariant.0 c.self.invariant.1 c.requires.some).0 in
    let within = c.begun_before-2.ensures.within in
    omega arith

pub returns-clause-some : goal.returns-clause-some
returns-clause-some c = some_among c.args.self.now.prefixes c.args.p c.requires.known (range c) (begins c) (subst (λ (b : Block). b.base < 2 ^ 32) c.p.view_is c.p.invariant.base)

pub returns-clause-first : goal.returns-clause-first
returns-clause-first c = begins c

pub returns-clause-address : goal.returns-clause-address
returns-clause-address c = among_address c.args.self.now.prefixes c.args.p c.requires.known (range c) (begins c)

pub returns-clause-class : goal.returns-clause-class
returns-clause-class c = among_class c.args.self.now c.args.p (range c) (begins c)
