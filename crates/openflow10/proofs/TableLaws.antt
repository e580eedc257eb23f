-- Tables of fields, written and read.
use Rattle.std.proofs.Common.{◌≡◌, ℕ, ◌+◌, ◌^◌, ◌<◌, ◌≤◌, List, [], ◌∷◌, ◌++◌, length, drop, sym, ap, subst, ◌∙◌, append_assoc, length-append, arith}
use Rattle.std.specs.List.{AllByRecursion}
use Rattle.openflow10.specs.Layout.{Row, text_of, Spans, Holds, number_at, number_bytes}
use Rattle.openflow10.proofs.NumberLaws.{IsBytes, length-number_bytes, number_at-append, drop-number_at}

-- each value has room in its bytes
abbrev pub Fit : List Row → Type 0
Fit rows = AllByRecursion (λ row. row.value < 256 ^ row.bytes) rows

pub Spans-le : (first : ℕ) (rows : List Row) (end : ℕ) → Spans first rows end → first ≤ end
Spans-le first [] end h = omega arith
Spans-le first (row ∷ rows) end h =
    let rest = Spans-le (first + row.bytes) rows end h.1 in
    omega arith

pub length-text_of : (first : ℕ) (rows : List Row) (end : ℕ) → Spans first rows end → first + length (text_of rows) ≡ end
length-text_of first [] end h = omega arith
length-text_of first (row ∷ rows) end h =
    let rest = length-text_of (first + row.bytes) rows end h.1 in
    let joined = length-append (number_bytes row.bytes row.value) (text_of rows) in
    let len = length-number_bytes row.bytes row.value in
    omega arith

-- what was written is read
pub text-holds : (rows : List Row) (front rest : List ℕ) (end : ℕ) → Spans (length front) rows end → Fit rows → Holds (front ++ (text_of rows ++ rest)) rows
text-holds [] front rest end spans fit = tt
text-holds (row ∷ rows) front rest end spans fit =
    let text = number_bytes row.bytes row.value in
    let len : length (front ++ text) ≡ length front + row.bytes = length-append front text ∙ ap (λ (n : ℕ). length front + n) (length-number_bytes row.bytes row.value) in
    let regrouped : front ++ ((text ++ text_of rows) ++ rest) ≡ (front ++ text) ++ (text_of rows ++ rest) =
    ap (λ (t : List ℕ). front ++ t) (append_assoc text (text_of rows) rest) ∙ sym (append_assoc front text (text_of rows ++ rest)) in
    let later = text-holds rows (front ++ text) rest end (subst (λ (n : ℕ). Spans n rows end) (sym len) spans.1) fit.1 in
    let here : number_at row.offset row.bytes (front ++ ((text ++ text_of rows) ++ rest)) ≡ row.value =
    ap (λ (o : ℕ). number_at o row.bytes (front ++ ((text ++ text_of rows) ++ rest))) spans.0
    ∙ ap (λ (t : List ℕ). number_at (length front) row.bytes (front ++ t)) (append_assoc text (text_of rows) rest)
    ∙ number_at-append front row.bytes row.value (text_of rows ++ rest) fit.0 in
    (here, subst (λ (t : List ℕ). Holds t rows) (sym regrouped) later)

-- what was read is written again
pub holds-text : (rows : List Row) (first end : ℕ) (bytes : List ℕ) → IsBytes bytes → end ≤ length bytes → Spans first rows end → Holds bytes rows → drop first bytes ≡ text_of rows ++ drop end bytes
holds-text [] first end bytes fits room spans holds = ap (λ (n : ℕ). drop n bytes) spans
holds-text (row ∷ rows) first end bytes fits room spans holds =
    let last = Spans-le (first + row.bytes) rows end spans.1 in
    let text = number_bytes row.bytes row.value in
    let value : number_at first row.bytes bytes ≡ row.value = ap (λ (o : ℕ). number_at o row.bytes bytes) (sym spans.0) ∙ holds.0 in
    let rest = holds-text rows (first + row.bytes) end bytes fits room spans.1 holds.1 in
    drop-number_at row.bytes first bytes fits (omega arith)
    ∙ ap (λ (x : ℕ). number_bytes row.bytes x ++ drop (first + row.bytes) bytes) value
    ∙ ap (λ (t : List ℕ). text ++ t) rest
    ∙ sym (append_assoc text (text_of rows) (drop end bytes))

-- a table in two parts
pub Spans-append : (rows others : List Row) (first middle end : ℕ) → Spans first rows middle → Spans middle others end → Spans first (rows ++ others) end
Spans-append [] others first middle end h k = subst (λ (n : ℕ). Spans n others end) (sym h) k
Spans-append (row ∷ rows) others first middle end h k = (h.0, Spans-append rows others (first + row.bytes) middle end h.1 k)

pub Holds-append : (rows others : List Row) (bytes : List ℕ) → Holds bytes rows → Holds bytes others → Holds bytes (rows ++ others)
Holds-append [] others bytes h k = k
Holds-append (row ∷ rows) others bytes h k = (h.0, Holds-append rows others bytes h.1 k)

pub Holds-split : (rows others : List Row) (bytes : List ℕ) → Holds bytes (rows ++ others) → Holds bytes rows × Holds bytes others
Holds-split [] others bytes h = (tt, h)
Holds-split (row ∷ rows) others bytes h =
    let rest = Holds-split rows others bytes h.1 in
    ((h.0, rest.0), rest.1)

pub Fit-append : (rows others : List Row) → Fit rows → Fit others → Fit (rows ++ others)
Fit-append [] others h k = k
Fit-append (row ∷ rows) others h k = (h.0, Fit-append rows others h.1 k)
