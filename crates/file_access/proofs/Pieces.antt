-- How a file is read, and a text is written, piece after piece.
use Rattle.std.proofs.Common.{◌≡◌, ℕ, ◌-◌, ◌<◌, ◌≤◌, List, ◌++◌, length, take, drop, None, Some, length-drop, take-append-drop, take_all, refl, sym, ap, ◌∙◌, append_assoc, length-append, arith}
use Rattle.std.specs.declared.option.Option.{Option}
use Rattle.std.specs.Io.KnownBytes.{Consumes, Appends, Keeps}
use Rattle.std.proofs.Math.Seq.{take-append_seam}
use Rattle.file_access.specs.Outside.{Files, IsLonger, AppendsFront}

-- where the source tells what it holds, these bytes of the file are read, and the rest is left
abbrev pub Reads : Option Files → List ℕ → List ℕ → Option (List ℕ) → Type 0
Reads None name bytes left = Unit {0}
Reads (Some files) name bytes left = (rest : List ℕ) × (left ≡ Some rest) × (files name ≡ Some (bytes ++ rest))

-- a piece more is read
pub reads-more : (held : Option Files) (name bytes piece : List ℕ) (old new : Option (List ℕ)) → Reads held name bytes old → Consumes old new piece → Reads held name (bytes ++ piece) new
reads-more None name bytes piece old new reads consumes = tt
reads-more (Some files) name bytes piece None new reads consumes = absurd (cc (reads.1))
reads-more (Some files) name bytes piece (Some old) None reads consumes = absurd consumes
reads-more (Some files) name bytes piece (Some old) (Some new) reads consumes =
    let rest : reads.0 ≡ piece ++ new = cc (reads.1, consumes) in
    (new, refl, reads.2 ∙ ap (λ r. Some (bytes ++ r)) rest ∙ ap Some (sym (append_assoc bytes piece new)))

-- more is read than the limit
pub reads-longer : (held : Option Files) (name bytes : List ℕ) (left : Option (List ℕ)) (limit : ℕ) → Reads held name bytes left → limit < length bytes → IsLonger held name limit
reads-longer None name bytes left limit reads more = (bytes, tt, more)
reads-longer (Some files) name bytes left limit reads more = (bytes ++ reads.0, reads.2, omega (arith, length-append bytes reads.0))

-- where the sink tells, the front of the bytes before the rest is written
pub record Poured (old now : Option (List ℕ)) (bytes rest : List ℕ) : Type 0 where
  pub front : List ℕ
  pub whole : bytes ≡ front ++ rest
  pub written : Appends old now front

appends-then : (a b c : Option (List ℕ)) (bs cs : List ℕ) → Appends a b bs → Appends b c cs → Appends a c (bs ++ cs)
appends-then None b c bs cs p q = tt
appends-then (Some x) None c bs cs p q = absurd p
appends-then (Some x) (Some y) None bs cs p q = absurd q
appends-then (Some x) (Some y) (Some z) bs cs p q = q ∙ ap (λ l. l ++ cs) p ∙ append_assoc x bs cs

pub poured-more : (old now new : Option (List ℕ)) (bytes rest piece after : List ℕ) → Poured old now bytes rest → rest ≡ piece ++ after → Appends now new piece → Poured old new bytes after
poured-more old now new bytes rest piece after p parts more = record {
  front = p.front ++ piece;
  whole = p.whole ∙ ap (λ r. p.front ++ r) parts ∙ sym (append_assoc p.front piece after);
  written = appends-then old now new p.front piece p.written more;
}

appends-front : (old new : Option (List ℕ)) (bytes front rest : List ℕ) → bytes ≡ front ++ rest → Appends old new front → AppendsFront old new bytes
appends-front None new bytes front rest parts written = tt
appends-front (Some old) None bytes front rest parts written = absurd written
appends-front (Some old) (Some new) bytes front rest parts written =
    (length front, omega (arith, ap length parts, length-append front rest), written ∙ ap (λ p. old ++ p) (sym (ap (take (length front)) parts ∙ take-append_seam front rest)))

keeps-then : (old now new : Option (List ℕ)) (front : List ℕ) → Appends old now front → Keeps now new → Appends old new front
keeps-then None now new front p q = tt
keeps-then (Some x) None new front p q = absurd p
keeps-then (Some x) (Some y) None front p q = absurd q
keeps-then (Some x) (Some y) (Some z) front p q = q ∙ p

-- a put that fails leaves the front
pub poured-front : (old now new : Option (List ℕ)) (bytes rest : List ℕ) → Poured old now bytes rest → Keeps now new → AppendsFront old new bytes
poured-front old now new bytes rest p keeps = appends-front old new bytes p.front rest p.whole (keeps-then old now new p.front p.written keeps)

-- a list is its front and the rest, as a range cuts them
pub cut-at : (s : List ℕ) (n : ℕ) → n ≤ length s → s ≡ take n s ++ take (length s - n) (drop n s)
cut-at s n le = sym (ap (λ r. take n s ++ r) (take_all (length s - n) (drop n s) (omega (arith, length-drop n s))) ∙ take-append-drop n s)
