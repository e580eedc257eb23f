use Rattle.std.proofs.Common.{◌≡◌, ◌<◌, ◌+◌, ◌++◌, ◌∷◌, [], ℕ, List, map, length, get_or, refl, sym, ◌∙◌, subst, ap, rules}
use Rattle.std.proofs.lemmas.List.{length-map, get_or_default}
use Rattle.net_base.proofs.MemberLaws.{map-push}
use Rattle.flow_rules.specs.Tuples.{slot_of}
use Rattle.flow_rules.specs.declared.rules.Pattern.{Pattern}
use Rattle.flow_rules.specs.declared.tuple_space.Entry.{Entry}
use Rattle.flow_rules.proofs.TupleLaws.{space_push}
use Rattle.flow_rules.proofs.tuple_space.TupleSpace.add.Goals as goal

pub invariant_of-self-2 : goal.invariant_of-self-2
invariant_of-self-2 c =
    let heads = c.self.inside.heads.items in
    let entries = c.self.inside.entries.items in
    let p = c.args.pattern.now in
    let nexts : List ℕ = map (λ (e : Entry). e.next) entries in
    let patterns : List Pattern = map (λ (e : Entry). e.pattern) entries in
    let many : c.len.result ≡ length heads = search rules in
    let slot : c.slot_of-slot.result ≡ slot_of (length heads) p = subst (λ (n : ℕ). c.slot_of-slot.result ≡ slot_of n p) many c.slot_of-slot.ensures.slot in
    let below : c.slot_of-slot.result < length heads = subst (λ (n : ℕ). c.slot_of-slot.result < n) many c.slot_of-slot.ensures.within in
    let head : c.index-next.result.now ≡ get_or heads (slot_of (length heads) p) 0 =
    c.index-next.ensures ∙ get_or_default heads c.slot_of-slot.result c.index-next.result.now 0 below ∙ ap (λ (n : ℕ). get_or heads n 0) slot in
    let new : Entry = record { pattern = p; next = c.index-next.result.now } in
    let items : c.push_reserved.new.self.items ≡ entries ++ new ∷ [] = c.push_reserved.ensures.items in
    let held : c.len-count.result ≡ length entries = search rules in
    let last : c.len-count.result + 1 ≡ length patterns + 1 = ap (λ (n : ℕ). n + 1) (held ∙ sym (length-map entries (λ (e : Entry). e.pattern))) in
    let nexts_are : map (λ (e : Entry). e.next) c.push_reserved.new.self.items ≡ nexts ++ get_or heads (slot_of (length heads) p) 0 ∷ [] =
    ap (map (λ (e : Entry). e.next)) items ∙ map-push (λ (e : Entry). e.next) entries new ∙ ap (λ (n : ℕ). nexts ++ n ∷ []) head in
    let patterns_are : map (λ (e : Entry). e.pattern) c.push_reserved.new.self.items ≡ patterns ++ p ∷ [] =
    ap (map (λ (e : Entry). e.pattern)) items ∙ map-push (λ (e : Entry). e.pattern) entries new in
    let width : length nexts ≡ length patterns = length-map entries (λ (e : Entry). e.next) ∙ sym (length-map entries (λ (e : Entry). e.pattern)) in
    rw (nexts_are, patterns_are, last, slot)
    (space_push heads nexts patterns c.self.inside.kinds.items c.self.invariant width p c.add_kind.new.kinds.items
    (subst (λ (n : ℕ). n < length heads) slot below)
    c.keeps_bits.ensures (c.if-not-add_kind.ensures.known refl) c.add_kind.ensures.kept)
