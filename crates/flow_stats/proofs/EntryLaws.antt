-- The entries of a message, from an offset to its end.
use Rattle.std.proofs.Common.{◌≡◌, ◌↔◌, ◌&&◌, ◌==◌, ℕ, zero, suc, ◌+◌, ◌<◌, ◌≤◌, Bool, true, false, cond, List, [], ◌∷◌, ◌++◌, length, refl, sym, ◌∙◌, ap, subst, append_assoc, arith}
use Rattle.std.specs.Prelude.{nat_le, Option, Some, None, option_map}
use Rattle.std.proofs.lemmas.Bool.{and_parts, leb-true, eqb-true, eq-eqb, ne_eqb}
use Rattle.std.proofs.lemmas.Option.{cond_some}
use Rattle.openflow10.specs.Layout.{number_at}
use Rattle.flow_stats.specs.Entries.{is_entry, entry_in, entry_at, entries_from, entries_in, Fill}
use Rattle.flow_stats.specs.declared.entries.Entry.{Entry}

-- an entry has at least 88 bytes, and all of them stand in the message
pub record EntryRoom (at : ℕ) (bytes : List ℕ) : Type 0 where
  pub fixed : at + 88 ≤ length bytes
  pub least : 88 ≤ number_at at 2 bytes
  pub whole : at + number_at at 2 bytes ≤ length bytes

pub entry_room : (at : ℕ) (bytes : List ℕ) → is_entry at bytes ≡ true → EntryRoom at bytes
unfolding is_entry
entry_room at bytes e =
    let (front, whole) = and_parts (nat_le (at + 88) (length bytes) && nat_le 88 (number_at at 2 bytes)) (nat_le (at + number_at at 2 bytes) (length bytes)) e in
    let (fixed, least) = and_parts (nat_le (at + 88) (length bytes)) (nat_le 88 (number_at at 2 bytes)) front in
    record { fixed = leb-true (at + 88) (length bytes) fixed; least = leb-true 88 (number_at at 2 bytes) least; whole = leb-true (at + number_at at 2 bytes) (length bytes) whole }

module _ (bytes : List ℕ) where
  abbrev following : ℕ → Option (List Entry) → Option (List Entry)
  following at rest = option_map (λ es. entry_at at bytes ∷ es) rest

  abbrev next_at : ℕ → ℕ
  next_at at = at + number_at at 2 bytes

  -- as many steps as there are bytes are enough, and more change nothing
  enough : (m n at : ℕ) → length bytes ≤ at + m → length bytes ≤ at + n → at ≤ length bytes → entries_from m at bytes ≡ entries_from n at bytes
  enough zero zero at hm hn le = refl
  enough zero (suc n) at hm hn le = let same : at ≡ length bytes = omega arith in rw (eq-eqb at (length bytes) same) refl
  enough (suc m) zero at hm hn le = let same : at ≡ length bytes = omega arith in rw (eq-eqb at (length bytes) same) refl
  enough (suc m) (suc n) at hm hn le =
      ap (λ (o : Option (List Entry)). cond (at == length bytes) (Some []) o)
      (elim (is_entry at bytes) as (λ b. is_entry at bytes ≡ b → cond b (following at (entries_from m (next_at at) bytes)) None ≡ cond b (following at (entries_from n (next_at at) bytes)) None) [
        | true ↦ λ e. (let room = entry_room at bytes e in let least = room.least in ap (following at) (enough m n (next_at at) (omega arith) (omega arith) room.whole))
        | false ↦ λ e. refl
      ] refl)

  -- the entries from an offset on
  abbrev pub rest_at : ℕ → Option (List Entry)
  rest_at at = entries_from (length bytes) at bytes

  step : (m at : ℕ) → at < length bytes → is_entry at bytes ≡ true → entries_from (suc m) at bytes ≡ following at (entries_from m (next_at at) bytes)
  step m at less e = rw (ne_eqb at (length bytes) (λ same. omega arith), e) refl

  no_step : (m at : ℕ) → at < length bytes → is_entry at bytes ≡ false → entries_from (suc m) at bytes ≡ None
  no_step m at less e = rw (ne_eqb at (length bytes) (λ same. omega arith), e) refl

  grown : (at : ℕ) → at < length bytes → entries_from (length bytes) at bytes ≡ entries_from (suc (length bytes)) at bytes
  grown at less = enough (length bytes) (suc (length bytes)) at (omega arith) (omega arith) (omega arith)

  pub next : (at : ℕ) → at < length bytes → is_entry at bytes ≡ true → rest_at at ≡ following at (rest_at (next_at at))
  next at less e = grown at less ∙ step (length bytes) at less e

  pub stuck : (at : ℕ) → at < length bytes → is_entry at bytes ≡ false → rest_at at ≡ None
  stuck at less e = grown at less ∙ no_step (length bytes) at less e

  ended_from : (n at : ℕ) → at ≡ length bytes → entries_from n at bytes ≡ Some []
  ended_from zero at same = rw (eq-eqb at (length bytes) same) refl
  ended_from (suc n) at same = rw (eq-eqb at (length bytes) same) refl

  pub ended : (at : ℕ) → at ≡ length bytes → rest_at at ≡ Some []
  ended at same = ended_from (length bytes) at same

  -- ---- the loop

  abbrev pub behind : List Entry → Option (List Entry) → Option (List Entry)
  behind done rest = option_map (λ es. done ++ es) rest

  moved : (done : List Entry) (x : Entry) (rest : Option (List Entry)) → behind done (option_map (λ es. x ∷ es) rest) ≡ behind (done ++ x ∷ []) rest
  moved done x None = refl
  moved done x (Some es) = ap (λ (xs : List Entry). Some xs) (sym (append_assoc done (x ∷ []) es))

  pub goes_on : (at next : ℕ) (done new : List Entry) (x : Entry) (total : Option (List Entry)) → at < length bytes → is_entry at bytes ≡ true → x ≡ entry_at at bytes → next ≡ next_at at → new ≡ done ++ x ∷ []
      → behind done (rest_at at) ≡ total → behind new (rest_at next) ≡ total
  goes_on at following_at done new x total less e is there pushed so_far =
      rw (pushed, is, there) (sym (moved done (entry_at at bytes) (rest_at (next_at at))) ∙ ap (behind done) (sym (next at less e)) ∙ so_far)

pub entry_found : (at : ℕ) (bytes : List ℕ) (x : Entry) → Some x ≡ entry_in at bytes → (is_entry at bytes ≡ true) × (entry_at at bytes ≡ x)
entry_found at bytes x e = cond_some (is_entry at bytes) (entry_at at bytes) x (sym e)

pub behind_nothing : (bytes : List ℕ) (o : Option (List Entry)) → behind bytes [] o ≡ o
behind_nothing bytes None = refl
behind_nothing bytes (Some es) = refl

-- ---- the law

module _ (bytes : List ℕ) where
  behind_some : (x : Entry) (o : Option (List Entry)) (es : List Entry) → option_map (λ ys. x ∷ ys) o ≡ Some es → (ys : List Entry) × (o ≡ Some ys) × (es ≡ x ∷ ys)
  behind_some x None es e = absurd (let f : None ≡ Some es = e in cc)
  behind_some x (Some ys) es e = (ys, refl, (let f : Some (x ∷ ys) ≡ Some es = e in let g : x ∷ ys ≡ es = cc in sym g))

  some_nil : (es : List Entry) → Some [] ≡ Some es → es ≡ []
  some_nil [] e = refl
  some_nil (x ∷ es) e = absurd cc

  fill_nil : (at : ℕ) (es : List Entry) → at ≡ length bytes → es ≡ [] → Fill at bytes es
  fill_nil at es same is = rw is same

  fill_from : (m at : ℕ) (es : List Entry) → at ≤ length bytes → entries_from m at bytes ≡ Some es → Fill at bytes es
  fill_from zero at es le e =
      elim (at == length bytes) as (λ b. at == length bytes ≡ b → cond b (Some []) None ≡ Some es → Fill at bytes es) [
        | true ↦ λ t f. fill_nil at es (eqb-true at (length bytes) t) (some_nil es f)
        | false ↦ λ t f. absurd (let g : None ≡ Some es = f in cc)
      ] refl e
  fill_from (suc m) at es le e =
      elim (at == length bytes) as (λ b. at == length bytes ≡ b → cond b (Some []) (cond (is_entry at bytes) (following bytes at (entries_from m (next_at bytes at) bytes)) None) ≡ Some es → Fill at bytes es) [
        | true ↦ λ t f. fill_nil at es (eqb-true at (length bytes) t) (some_nil es f)
        | false ↦ λ t f. elim (is_entry at bytes) as (λ c. is_entry at bytes ≡ c → cond c (following bytes at (entries_from m (next_at bytes at) bytes)) None ≡ Some es → Fill at bytes es) [
          | true ↦ λ i g. (
              let (ys, read, is) = behind_some (entry_at at bytes) (entries_from m (next_at bytes at) bytes) es g in
              rw is (i, refl, fill_from m (next_at bytes at) ys (entry_room at bytes i).whole read))
          | false ↦ λ i g. absurd (let h : None ≡ Some es = g in cc)
        ] refl f
      ] refl e

  entries_fill : (m at : ℕ) (es : List Entry) → at ≤ length bytes → length bytes ≤ at + m → Fill at bytes es → entries_from m at bytes ≡ Some es
  entries_fill m at [] le hm fill = ended_from bytes m at fill
  entries_fill zero at (x ∷ es) le hm fill = absurd (let room = entry_room at bytes fill.0 in let least = room.least in let whole = room.whole in omega arith)
  entries_fill (suc m) at (x ∷ es) le hm fill =
      let room = entry_room at bytes fill.0 in
      let least = room.least in
      let fixed = room.fixed in
      let rest : Fill (next_at bytes at) bytes es = subst (λ (y : Entry). Fill (at + y.fields.len) bytes es) fill.1 fill.2 in
      step bytes m at (omega arith) fill.0 ∙ ap (following bytes at) (entries_fill m (next_at bytes at) es room.whole (omega arith) rest) ∙ ap (λ (y : Entry). Some (y ∷ es)) (sym fill.1)

  pub fill_law : (es : List Entry) → 12 ≤ length bytes → (entries_in bytes ≡ Some es) ↔ Fill 12 bytes es
  unfolding entries_in
  fill_law es room = (λ e. fill_from (length bytes) 12 es room e, λ fill. entries_fill (length bytes) 12 es room (omega arith) fill)
