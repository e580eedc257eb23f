use Rattle.std.proofs.Common.{◌≡◌, ℕ, ◌+◌, ◌-◌, ◌%◌, ◌<◌, ◌≤◌, Bool, false, List, length, get_or, Some, sym, subst, arith}
use Rattle.std.specs.Prelude.{slice_get}
use Rattle.class_watch.specs.Looked.{IsNextNumber}
use Rattle.class_watch.proofs.ListLaws.{read_at}
use Rattle.class_watch.proofs.LookedLaws.{next_in_row, next_in_next, none_next}
use Rattle.class_watch.proofs.looked.LookedAtoms.first_number.Goals as goal

pub returns-then-in_row-atoms-clause-some : goal.returns-then-in_row-atoms-clause-some
returns-then-in_row-atoms-clause-some c =
    let marks = c.self.inside.marks.items in
    let nexts = c.self.inside.next.items in
    let number = c.args.number in
    let in_row = c.index.result.now in
    let count = c.self.invariant.count in
    let long : c.len-atoms.result ≡ length marks = (let ok = c.self.inside.next.ok.0 in let len = c.len-atoms.ensures in omega arith) in
    subst (λ (bs : List Bool). IsNextNumber bs number (number - number % c.len-atoms.result + in_row)) c.self.view_is
    (subst (λ (m : ℕ). in_row ≡ get_or nexts (number % m) in_row → in_row < m → IsNextNumber marks number (number - number % m + in_row)) (sym long)
    (next_in_row marks nexts c.self.invariant number in_row) c.index.ensures c.if-in_row-atoms.true)

pub returns-then-first-atoms-clause-some : goal.returns-then-first-atoms-clause-some
returns-then-first-atoms-clause-some c =
    let marks = c.self.inside.marks.items in
    let nexts = c.self.inside.next.items in
    let number = c.args.number in
    let in_row = c.index.result.now in
    let first = c.index-2.result.now in
    let count = c.self.invariant.count in
    let some = c.self.invariant.some in
    let long : c.len-atoms.result ≡ length marks = (let ok = c.self.inside.next.ok.0 in let len = c.len-atoms.ensures in omega arith) in
    let at_first : slice_get nexts 0 ≡ Some first = read_at nexts 0 first (omega arith) c.index-2.ensures in
    subst (λ (bs : List Bool). IsNextNumber bs number (number - number % c.len-atoms.result + c.len-atoms.result + first)) c.self.view_is
    (subst (λ (m : ℕ). in_row ≡ get_or nexts (number % m) in_row → m ≤ in_row → first < m → IsNextNumber marks number (number - number % m + m + first)) (sym long)
    (λ read. next_in_next marks nexts c.self.invariant number in_row read first at_first) c.index.ensures c.if-in_row-atoms.false c.if-first-atoms.true)

pub returns-clause-none : goal.returns-clause-none
returns-clause-none c n =
    let are = c.self.invariant in
    let marks = c.self.inside.marks.items in
    let nexts = c.self.inside.next.items in
    let count = are.count in
    let some = are.some in
    let long : c.len-atoms.result ≡ length marks = (let ok = c.self.inside.next.ok.0 in let len = c.len-atoms.ensures in omega arith) in
    let first = c.index-2.result.now in
    let at_first : slice_get nexts 0 ≡ Some first = read_at nexts 0 first (omega arith) c.index-2.ensures in
    let past : length marks ≤ first = subst (λ (m : ℕ). m ≤ first) long c.if-first-atoms.false in
    subst (λ (bs : List Bool). get_or bs (n % length bs) false ≡ false) c.self.view_is (none_next marks nexts are first at_first past n)
