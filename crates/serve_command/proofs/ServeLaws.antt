-- Lines that are served one after the other, and where that stops.
use Rattle.std.proofs.Common.{◌≡◌, ◌≢◌, ℕ, ◌+◌, ◌-◌, ◌<◌, ◌≤◌, ◌^◌, List, [], ◌∷◌, ◌++◌, length, take, min, true, false, None, Some, refl, sym, ap, ◌∙◌, subst, append_assoc, append-nil, length-append, take_all, inl, inr, lit<, arith}
use Rattle.std.specs.Prelude.{Option, Bool, ◌⊎◌}
use Rattle.std.specs.Io.KnownBytes.{Appends, Keeps, Consumes, IsAtEnd}
use Rattle.std.proofs.KnownBytes.{Appends-trans, Appends-kept, Appends-nil, Consumes-trans}
use Rattle.std.proofs.Math.Seq.{take-append_seam, take-append-add}
use Rattle.std.proofs.lemmas.List.{take-append-le, take_min, length-take}
use Rattle.std.proofs.lemmas.Bool.{cases_lt}
use Rattle.file_access.specs.Causes.{raised_count}
use Rattle.file_access.specs.Outside.{Files, IsMissing, Opens, AppendsFront}
use Rattle.command_base.specs.declared.status.Status.{Status}
use Rattle.command_base.specs.declared.status.Status.TheVariants as status
use Rattle.topology.specs.Networks.{Network}
use Rattle.two_way_driver.specs.Calls.{DriverView}
use Rattle.serve_lines.specs.Lines.{kept_bytes, line_in, ended_lines, open_line, last_line, lines_in}
use Rattle.serve_lines.proofs.KeptLaws.{line_kept, kept_next}
use Rattle.serve_lines.proofs.LineLaws.{end_ends, end_begins, byte_ends, byte_opens}
use Rattle.serve_command.specs.Served.{after_line, line_block, after_lines, blocks, after_read, outcome_read}
use Rattle.serve_command.specs.Takes.{InputTake, Gave, Faulted, Begins, AddsTake}
use Rattle.serve_command.specs.Stops.{StopsLine, StopsAt, HasServed, IsFrontOf, AreAll, IsInputTaken, lines_ended, EndsAfter, EndsInput, EndsStandardInput, EndsServing, status_of, input_name, input_of}
use Rattle.serve_command.specs.declared.fault.ServeFault.{ServeFault}
use Rattle.serve_command.specs.declared.fault.ServeFault.TheVariants as fault
use Rattle.serve_command.proofs.TakeLaws.{MayGoOn, told_first, told_more, told_fault, told_end, told_last, told_behind}

-- ---- lines in a row

pub blocks-append : (v : DriverView) (lines more : List (List ℕ)) → blocks v (lines ++ more) ≡ blocks v lines ++ blocks (after_lines v lines) more
blocks-append v [] more = refl
blocks-append v (line ∷ lines) more =
    ap (λ (t : List ℕ). line_block v line ++ t) (blocks-append (after_line v line) lines more)
    ∙ sym (append_assoc (line_block v line) (blocks (after_line v line) lines) (blocks (after_lines (after_line v line) lines) more))

pub after_lines-append : (v : DriverView) (lines more : List (List ℕ)) → after_lines v (lines ++ more) ≡ after_lines (after_lines v lines) more
after_lines-append v [] more = refl
after_lines-append v (line ∷ lines) more = after_lines-append (after_line v line) lines more

blocks-push : (v : DriverView) (lines : List (List ℕ)) (line : List ℕ) → blocks v (lines ++ line ∷ []) ≡ blocks v lines ++ line_block (after_lines v lines) line
blocks-push v lines line = blocks-append v lines (line ∷ []) ∙ ap (λ (t : List ℕ). blocks v lines ++ t) (append-nil (line_block (after_lines v lines) line))

-- ---- of a line it is enough to know what is kept

module _ (d : DriverView) (line : List ℕ) where
  pub block_kept : line_block d (kept_bytes line) ≡ line_block d line
  unfolding line_block
  block_kept = rw (line_kept d.net line) refl

  pub after_kept : after_line d (kept_bytes line) ≡ after_line d line
  unfolding after_line
  after_kept = rw (line_kept d.net line) refl

-- ---- writing goes on

front_behind : (old now new : Option (List ℕ)) (xs ys : List ℕ) → Appends old now xs → AppendsFront now new ys → AppendsFront old new (xs ++ ys)
front_behind None now new xs ys p q = tt
front_behind (Some a) None new xs ys p q = absurd p
front_behind (Some a) (Some b) None xs ys p q = absurd q
front_behind (Some a) (Some b) (Some c) xs ys p (n, le, is) =
    (length xs + n, omega (arith, length-append xs ys), is ∙ ap (λ (t : List ℕ). t ++ take n ys) p ∙ append_assoc a xs (take n ys) ∙ ap (λ (t : List ℕ). a ++ t) (sym (take-append-add xs ys n)))

front_more : (old new : Option (List ℕ)) (xs ys : List ℕ) → AppendsFront old new xs → AppendsFront old new (xs ++ ys)
front_more None new xs ys p = tt
front_more (Some a) None xs ys p = absurd p
front_more (Some a) (Some b) xs ys (n, le, is) = (n, omega (arith, length-append xs ys), is ∙ ap (λ (t : List ℕ). a ++ t) (sym (take-append-le n xs ys le)))

-- ---- a line that is ended

module _ (v : DriverView) (old now new : Option (List ℕ)) (bytes : List ℕ) (d : DriverView) (line : List ℕ) (h : HasServed v old now bytes d line) where
  -- the block of the open line
  block_is : line_block d line ≡ line_block (after_lines v (ended_lines bytes)) (open_line bytes)
  block_is = ap (λ (x : DriverView). line_block x line) h.driver_is ∙ ap (line_block (after_lines v (ended_lines bytes))) h.line_is ∙ block_kept (after_lines v (ended_lines bytes)) (open_line bytes)

  all_blocks : blocks v (ended_lines bytes) ++ line_block d line ≡ blocks v (ended_lines bytes ++ open_line bytes ∷ [])
  all_blocks = ap (λ (t : List ℕ). blocks v (ended_lines bytes) ++ t) block_is ∙ sym (blocks-push v (ended_lines bytes) (open_line bytes))

  -- it is served
  pub line_written : Appends now new (line_block d line) → Appends old new (blocks v (ended_lines bytes ++ open_line bytes ∷ []))
  line_written p = subst (λ (t : List ℕ). Appends old new t) all_blocks (Appends-trans old now new (blocks v (ended_lines bytes)) (line_block d line) h.written p)

  pub line_behind : (e : DriverView) → e ≡ after_line d line → e ≡ after_lines v (ended_lines bytes ++ open_line bytes ∷ [])
  line_behind e is =
      is ∙ ap (λ (x : DriverView). after_line x line) h.driver_is ∙ ap (after_line (after_lines v (ended_lines bytes))) h.line_is ∙ after_kept (after_lines v (ended_lines bytes)) (open_line bytes)
      ∙ sym (after_lines-append v (ended_lines bytes) (open_line bytes ∷ []))

  -- or it stops
  pub line_stops : (s : ServeFault) → StopsLine now new (line_block d line) s → StopsAt (blocks v) old new (ended_lines bytes ++ open_line bytes ∷ []) s
  line_stops fault.WriteFault p = subst (λ (t : List ℕ). AppendsFront old new t) all_blocks (front_behind old now new (blocks v (ended_lines bytes)) (line_block d line) h.written p)
  line_stops fault.Memory p = (
    length (ended_lines bytes),
    subst (λ (t : List (List ℕ)). Appends old new (blocks v t)) (sym (take-append_seam (ended_lines bytes) (open_line bytes ∷ []))) (Appends-kept old now new (blocks v (ended_lines bytes)) h.written p),
  )

-- what stops among lines stops among these and more
pub stops_more : (v : DriverView) (old new : Option (List ℕ)) (lines more : List (List ℕ)) (s : ServeFault) → StopsAt (blocks v) old new lines s → StopsAt (blocks v) old new (lines ++ more) s
stops_more v old new lines more fault.WriteFault p = subst (λ (t : List ℕ). AppendsFront old new t) (sym (blocks-append v lines more)) (front_more old new (blocks v lines) (blocks (after_lines v lines) more) p)
stops_more v old new lines more fault.Memory (n, p) =
    let within : min n (length lines) ≤ length lines = omega arith in
    (min n (length lines), subst (λ (t : List (List ℕ)). Appends old new (blocks v t)) (sym (take-append-le (min n (length lines)) lines more within ∙ take_min n lines)) p)

-- ---- bytes come

-- a line end came, and the line was served
pub served_ended : (v : DriverView) (old now new : Option (List ℕ)) (bytes : List ℕ) (d e : DriverView) (line empty : List ℕ)
    → HasServed v old now bytes d line → Appends now new (line_block d line) → e ≡ after_line d line → empty ≡ [] → HasServed v old new (bytes ++ 10 ∷ []) e empty
served_ended v old now new bytes d e line empty h written behind cleared = record {
  driver_is = line_behind v old now now bytes d line h e behind ∙ sym (ap (after_lines v) (end_ends bytes));
  line_is = cleared ∙ sym (ap kept_bytes (end_begins bytes));
  written = subst (λ (t : List (List ℕ)). Appends old new (blocks v t)) (sym (end_ends bytes)) (line_written v old now new bytes d line h written);
}

pub stops_ended : (v : DriverView) (old now new : Option (List ℕ)) (bytes : List ℕ) (d : DriverView) (line : List ℕ) (s : ServeFault)
    → HasServed v old now bytes d line → StopsLine now new (line_block d line) s → StopsAt (blocks v) old new (ended_lines (bytes ++ 10 ∷ [])) s
stops_ended v old now new bytes d line s h stops = subst (λ (t : List (List ℕ)). StopsAt (blocks v) old new t s) (sym (end_ends bytes)) (line_stops v old now new bytes d line h s stops)

-- any other byte came
pub served_kept : (v : DriverView) (old now : Option (List ℕ)) (bytes : List ℕ) (b : ℕ) (d e : DriverView) (line more : List ℕ)
    → b ≢ 10 → HasServed v old now bytes d line → e ≡ d → more ≡ kept_bytes (line ++ b ∷ []) → HasServed v old now (bytes ++ b ∷ []) e more
served_kept v old now bytes b d e line more differs h same longer = record {
  driver_is = same ∙ h.driver_is ∙ sym (ap (after_lines v) (byte_ends bytes b differs));
  line_is = longer ∙ ap (λ (t : List ℕ). kept_bytes (t ++ b ∷ [])) h.line_is ∙ kept_next 262145 (open_line bytes) b ∙ sym (ap kept_bytes (byte_opens bytes b differs));
  written = subst (λ (t : List (List ℕ)). Appends old now (blocks v t)) (sym (byte_ends bytes b differs)) h.written;
}

pub stops_kept : (v : DriverView) (old now : Option (List ℕ)) (bytes : List ℕ) (b : ℕ) (d : DriverView) (line : List ℕ)
    → b ≢ 10 → HasServed v old now bytes d line → StopsAt (blocks v) old now (ended_lines (bytes ++ b ∷ [])) fault.Memory
stops_kept v old now bytes b d line differs h =
    (length (ended_lines bytes), subst (λ (t : List (List ℕ)). Appends old now (blocks v t)) (sym (ap (take (length (ended_lines bytes))) (byte_ends bytes b differs) ∙ take_all (length (ended_lines bytes)) (ended_lines bytes) (omega arith))) h.written)

-- more bytes end more lines
record EndMore (bytes piece : List ℕ) : Type 0 where
  more : List (List ℕ)
  are : ended_lines (bytes ++ piece) ≡ ended_lines bytes ++ more

end_more_by : (bytes piece : List ℕ) (b : ℕ) → (b ≡ 10) ⊎ (b ≢ 10) → EndMore (bytes ++ b ∷ []) piece → EndMore bytes (b ∷ piece)
end_more_by bytes piece b (inl is) h = record {
  more = open_line bytes ∷ h.more;
  are = ap ended_lines (sym (append_assoc bytes (b ∷ []) piece)) ∙ h.are
      ∙ ap (λ (t : List (List ℕ)). t ++ h.more) (ap (λ (c : ℕ). ended_lines (bytes ++ c ∷ [])) is ∙ end_ends bytes) ∙ append_assoc (ended_lines bytes) (open_line bytes ∷ []) h.more;
}
end_more_by bytes piece b (inr differs) h = record {
  more = h.more;
  are = ap ended_lines (sym (append_assoc bytes (b ∷ []) piece)) ∙ h.are ∙ ap (λ (t : List (List ℕ)). t ++ h.more) (byte_ends bytes b differs);
}

is_or_differs : (b c : ℕ) → (b ≡ c) ⊎ (b ≢ c)
is_or_differs b c = elim (cases_lt b c) [ inl lt ↦ inr (λ e. absurd (omega arith)) | inr le ↦ elim (cases_lt c b) [ inl lt ↦ inr (λ e. absurd (omega arith)) | inr other ↦ inl (omega arith) ] ]

end_more : (bytes piece : List ℕ) → EndMore bytes piece
end_more bytes [] = record { more = []; are = ap ended_lines (append-nil bytes) ∙ sym (append-nil (ended_lines bytes)) }
end_more bytes (b ∷ piece) = end_more_by bytes piece b (is_or_differs b 10) (end_more (bytes ++ b ∷ []) piece)

-- what stops at the lines that these bytes end stops at those that more bytes end
pub stops_on : (v : DriverView) (old new : Option (List ℕ)) (bytes more : List ℕ) (s : ServeFault) → StopsAt (blocks v) old new (ended_lines bytes) s → StopsAt (blocks v) old new (ended_lines (bytes ++ more)) s
stops_on v old new bytes more s p =
    let h = end_more bytes more in
    subst (λ (t : List (List ℕ)). StopsAt (blocks v) old new t s) (sym h.are) (stops_more v old new (ended_lines bytes) h.more s p)

-- ---- the last line

pub empty_of : (line : List ℕ) → length line ≡ 0 → line ≡ []
empty_of [] e = refl
empty_of (b ∷ bs) e = absurd (omega arith)

none_taken : (n : ℕ) (line : List ℕ) → 0 < n → take n line ≡ [] → line ≡ []
none_taken n [] some e = refl
none_taken n (b ∷ bs) some e = let none : length (take n (b ∷ bs)) ≡ 0 = ap length e in absurd (omega (arith, none, length-take n (b ∷ bs)))

last_some : (line : List ℕ) → 0 < length line → last_line line ≡ line ∷ []
last_some [] some = absurd (omega arith)
last_some (b ∷ bs) some = refl

-- nothing stands behind the last line end
pub served_none : (v : DriverView) (old now : Option (List ℕ)) (bytes : List ℕ) (d : DriverView) (line : List ℕ) → HasServed v old now bytes d line → line ≡ [] → Appends old now (blocks v (lines_in bytes))
served_none v old now bytes d line h empty =
    subst (λ (t : List (List ℕ)). Appends old now (blocks v t)) (sym (ap (λ (t : List ℕ). ended_lines bytes ++ last_line t) (none_taken 262145 (open_line bytes) (lit< tt) (sym h.line_is ∙ empty)) ∙ append-nil (ended_lines bytes))) h.written

-- something stands there
some_last : (bytes line : List ℕ) → 0 < length line → line ≡ kept_bytes (open_line bytes) → lines_in bytes ≡ ended_lines bytes ++ open_line bytes ∷ []
some_last bytes line some is = ap (λ (t : List (List ℕ)). ended_lines bytes ++ t) (last_some (open_line bytes) (omega (arith, ap length is, length-take 262145 (open_line bytes))))

pub served_last : (v : DriverView) (old now new : Option (List ℕ)) (bytes : List ℕ) (d : DriverView) (line : List ℕ)
    → HasServed v old now bytes d line → 0 < length line → Appends now new (line_block d line) → Appends old new (blocks v (lines_in bytes))
served_last v old now new bytes d line h some written =
    subst (λ (t : List (List ℕ)). Appends old new (blocks v t)) (sym (some_last bytes line some h.line_is)) (line_written v old now new bytes d line h written)

pub stops_last : (v : DriverView) (old now new : Option (List ℕ)) (bytes : List ℕ) (d : DriverView) (line : List ℕ) (s : ServeFault)
    → HasServed v old now bytes d line → 0 < length line → StopsLine now new (line_block d line) s → StopsAt (blocks v) old new (lines_in bytes) s
stops_last v old now new bytes d line s h some stops =
    subst (λ (t : List (List ℕ)). StopsAt (blocks v) old new t s) (sym (some_last bytes line some h.line_is)) (line_stops v old now new bytes d line h s stops)

-- ---- the input

pub front_of : (input left : Option (List ℕ)) (taken : List ℕ) → Consumes input left taken → IsFrontOf input taken
front_of None left taken p = tt
front_of (Some all) None taken p = absurd p
front_of (Some all) (Some rest) taken p = (rest, p)

all_of : (input left : Option (List ℕ)) (taken : List ℕ) → Consumes input left taken → IsAtEnd left → AreAll input taken
all_of None left taken p at_end = tt
all_of (Some all) None taken p at_end = absurd p
all_of (Some all) (Some rest) taken p at_end = p ∙ ap (λ (t : List ℕ). taken ++ t) at_end ∙ append-nil taken

-- a line of a piece stopped it
ends_stopped : (v : DriverView) (input old new : Option (List ℕ)) (taken : List ℕ) (s : ServeFault) → IsFrontOf input taken → StopsAt (blocks v) old new (ended_lines taken) s → EndsAfter (blocks v) input old new taken false (status_of s)
ends_stopped v input old new taken fault.WriteFault front p = (front, p)
ends_stopped v input old new taken fault.Memory front p = (front, p)

-- some bytes of the input were taken, in turn with what was put, and the lines that they end were served
pub record Taking (v : DriverView) (input left old new : Option (List ℕ)) (counted : ℕ) (takes : Option (List InputTake)) (d : DriverView) (line : List ℕ) : Type 0 where
  pub taken : List ℕ
  pub consumed : Consumes input left taken
  pub count : counted ≡ raised_count 0 (length taken)
  pub in_turn : MayGoOn (blocks v) old takes taken
  pub served : HasServed v old new taken d line

counted_more : (n m top : ℕ) → min (min (0 + n) top + m) top ≡ min (0 + (n + m)) top
counted_more n m top = omega arith

-- ---- a take

module _ (v : DriverView) (input left old now : Option (List ℕ)) (counted : ℕ) (takes : Option (List InputTake)) (d : DriverView) (line : List ℕ) (t : Taking v input left old now counted takes d line) where
  count_more : (next : ℕ) (piece : List ℕ) → next ≡ raised_count counted (length piece) → next ≡ raised_count 0 (length (t.taken ++ piece))
  count_more next piece count =
      count ∙ ap (λ (k : ℕ). raised_count k (length piece)) t.count ∙ counted_more (length t.taken) (length piece) (2 ^ 64 - 1) ∙ sym (ap (raised_count 0) (length-append t.taken piece))

  -- a piece is taken, and its lines are served
  pub takes_more : (behind new : Option (List ℕ)) (next : ℕ) (after : Option (List InputTake)) (e : DriverView) (rest piece : List ℕ)
      → 0 < length piece → Consumes left behind piece → next ≡ raised_count counted (length piece) → AddsTake takes after (Gave now piece)
      → HasServed v old new (t.taken ++ piece) e rest → Taking v input behind old new next after e rest
  takes_more behind new next after e rest piece some consumes count adds served = record {
    taken = t.taken ++ piece;
    consumed = Consumes-trans input left behind t.taken piece t.consumed consumes;
    count = count_more next piece count;
    in_turn = told_more (blocks v) old now t.taken t.served.written takes after piece some t.in_turn adds;
    served = served;
  }

  -- a line of it stopped it
  pub ends_piece : (behind new : Option (List ℕ)) (next : ℕ) (after : Option (List InputTake)) (piece : List ℕ) (s : ServeFault)
      → 0 < length piece → Consumes left behind piece → next ≡ raised_count counted (length piece) → AddsTake takes after (Gave now piece)
      → StopsAt (blocks v) old new (ended_lines (t.taken ++ piece)) s → EndsInput (blocks v) input old new next after (status_of s)
  ends_piece behind new next after piece s some consumes count adds stops = record {
    taken = t.taken ++ piece;
    ended = false;
    count = count_more next piece count;
    in_turn = told_last (blocks v) old after (t.taken ++ piece) (told_more (blocks v) old now t.taken t.served.written takes after piece some t.in_turn adds);
    ends = ends_stopped v input old new (t.taken ++ piece) s (front_of input behind (t.taken ++ piece) (Consumes-trans input left behind t.taken piece t.consumed consumes)) stops;
  }

  -- it fails
  pub ends_unread : (next : ℕ) (after : Option (List InputTake)) → next ≡ counted → AddsTake takes after (Faulted now) → EndsInput (blocks v) input old now next after status.ReadFault
  ends_unread next after same adds = record {
    taken = t.taken;
    ended = false;
    count = same ∙ t.count;
    in_turn = told_fault (blocks v) old now t.taken t.served.written takes after t.in_turn adds;
    ends = (refl, front_of input left t.taken t.consumed, t.served.written);
  }

  -- it finds the end
  pub ends_ended : (new : Option (List ℕ)) (next : ℕ) (after : Option (List InputTake)) (result : Status) → IsAtEnd left → next ≡ raised_count counted 0 → AddsTake takes after (Gave now [])
      → ((bytes : List ℕ) → AreAll input bytes → HasServed v old now bytes d line → EndsAfter (blocks v) input old new bytes true result) → EndsInput (blocks v) input old new next after result
  ends_ended new next after result at_end count adds ends = record {
    taken = t.taken;
    ended = true;
    count = count_more next [] count ∙ ap (λ (b : List ℕ). raised_count 0 (length b)) (append-nil t.taken);
    in_turn = told_end (blocks v) old now t.taken t.served.written takes after t.in_turn adds;
    ends = ends t.taken (all_of input left t.taken t.consumed at_end) t.served;
  }

  -- none is made any more, as for want of memory
  pub ends_wanting : EndsInput (blocks v) input old now counted takes status.Memory
  ends_wanting = record {
    taken = t.taken;
    ended = false;
    count = t.count;
    in_turn = told_last (blocks v) old takes t.taken t.in_turn;
    ends = (front_of input left t.taken t.consumed, (length (ended_lines t.taken), subst (λ (l : List (List ℕ)). Appends old now (blocks v l)) (sym (take_all (length (ended_lines t.taken)) (ended_lines t.taken) (omega arith))) t.served.written));
  }

-- ---- the standard input

-- the input is what the source holds under the name, where it tells
held_front : (held : Option Files) (left : Option (List ℕ)) (taken : List ℕ) → Opens held input_name left → IsFrontOf left taken → IsFrontOf (input_of held) taken
held_front None left taken opens front = tt
held_front (Some files) left taken opens front = subst (λ (l : Option (List ℕ)). IsFrontOf l taken) opens front

held_all : (held : Option Files) (left : Option (List ℕ)) (taken : List ℕ) → Opens held input_name left → AreAll left taken → AreAll (input_of held) taken
held_all None left taken opens all = tt
held_all (Some files) left taken opens all = subst (λ (l : Option (List ℕ)). AreAll l taken) opens all

held_taken : (held : Option Files) (left : Option (List ℕ)) (taken : List ℕ) (ended : Bool) → Opens held input_name left → IsInputTaken ended left taken → IsInputTaken ended (input_of held) taken
held_taken held left taken false opens is = held_front held left taken opens is
held_taken held left taken true opens is = held_all held left taken opens is

held_after : (v : DriverView) (held : Option Files) (left old new : Option (List ℕ)) (taken : List ℕ) (ended : Bool) (result : Status)
    → Opens held input_name left → EndsAfter (blocks v) left old new taken ended result → EndsAfter (blocks v) (input_of held) old new taken ended result
held_after v held left old new taken ended status.Done opens p = (p.0, held_all held left taken opens p.1, p.2)
held_after v held left old new taken ended status.ReadFault opens p = (p.0, held_front held left taken opens p.1, p.2)
held_after v held left old new taken ended status.WriteFault opens p = (held_taken held left taken ended opens p.0, p.1)
held_after v held left old new taken ended status.Memory opens p = (held_taken held left taken ended opens p.0, p.1)
held_after v held left old new taken ended _ opens p = absurd p

not_both : false ≡ true → ⊥
not_both e = cc

-- it is there
pub ends_there : (v : DriverView) (held : Option Files) (left old new : Option (List ℕ)) (counted : ℕ) (takes : Option (List InputTake)) (result : Status)
    → (IsMissing held input_name → false ≡ true) → Opens held input_name left → EndsInput (blocks v) left old new counted takes result → EndsStandardInput (blocks v) held old new counted takes result
ends_there v held left old new counted takes result there opens e = record {
  input = record { taken = e.taken; ended = e.ended; count = e.count; in_turn = e.in_turn; ends = held_after v held left old new e.taken e.ended result opens e.ends };
  missing = λ none. absurd (not_both (there none));
}

none_front : (input : Option (List ℕ)) → IsFrontOf input []
none_front None = tt
none_front (Some all) = (all, refl)

-- it can't be begun
pub ends_unbegun : (v : DriverView) (held : Option Files) (old : Option (List ℕ)) (counted : ℕ) (takes : Option (List InputTake)) → counted ≡ 0 → Begins takes → EndsStandardInput (blocks v) held old old counted takes status.ReadFault
ends_unbegun v held old counted takes none begins = record {
  input = record {
    taken = [];
    ended = false;
    count = none;
    in_turn = told_last (blocks v) old takes [] (told_first (blocks v) old takes begins);
    ends = (refl, none_front (input_of held), Appends-nil old);
  };
  missing = λ is. (refl, Appends-nil old);
}

-- ---- the block of line 0

module _ (first : List ℕ) (v : DriverView) (old mid new : Option (List ℕ)) (written : Appends old mid first) where
  abbrev greeted : List (List ℕ) → List ℕ
  greeted lines = first ++ blocks v lines

  greeted_stops : (lines : List (List ℕ)) (s : ServeFault) → StopsAt (blocks v) mid new lines s → StopsAt greeted old new lines s
  greeted_stops lines fault.WriteFault p = front_behind old mid new first (blocks v lines) written p
  greeted_stops lines fault.Memory (n, p) = (n, Appends-trans old mid new first (blocks v (take n lines)) written p)

  greeted_after : (input : Option (List ℕ)) (taken : List ℕ) (ended : Bool) (result : Status) → EndsAfter (blocks v) input mid new taken ended result → EndsAfter greeted input old new taken ended result
  greeted_after input taken ended status.Done p = (p.0, p.1, Appends-trans old mid new first (blocks v (lines_in taken)) written p.2)
  greeted_after input taken ended status.ReadFault p = (p.0, p.1, Appends-trans old mid new first (blocks v (ended_lines taken)) written p.2)
  greeted_after input taken ended status.WriteFault p = (p.0, greeted_stops (lines_ended ended taken) fault.WriteFault p.1)
  greeted_after input taken ended status.Memory p = (p.0, greeted_stops (lines_ended ended taken) fault.Memory p.1)
  greeted_after input taken ended _ p = absurd p

  pub ends_greeted : (held : Option Files) (counted : ℕ) (takes : Option (List InputTake)) (result : Status) → EndsStandardInput (blocks v) held mid new counted takes result → EndsServing (λ lines. first ++ blocks v lines) held old new counted takes result
  ends_greeted held counted takes result e = inr (record {
    input = record {
      taken = e.input.taken;
      ended = e.input.ended;
      count = e.input.count;
      in_turn = told_behind first (blocks v) old mid written takes e.input.taken e.input.ended e.input.in_turn;
      ends = greeted_after (input_of held) e.input.taken e.input.ended result e.input.ends;
    };
    missing = λ none. ((e.missing none).0, Appends-trans old mid new first [] written (e.missing none).1);
  })
