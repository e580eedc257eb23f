-- A line end after a compact text changes nothing of what is read.
use Rattle.std.proofs.Common.{◌≡◌, ℕ, zero, suc, Bool, true, false, cond, ◌&&◌, List, [], ◌∷◌, ◌++◌, Option, Some, refl, sym, ap, ap₂, ◌∙◌, append_assoc, append-nil, arith}
use Rattle.std.specs.Prelude.{option_and_then}
use Rattle.std.specs.Str.{IsUtf8, IsAscii}
use Rattle.std.proofs.lemmas.Str.{IsUtf8-append, IsUtf8-from_ascii}
use Rattle.json.specs.Token.{Token, begin_object, end_object, begin_array, end_array, key, string, number, boolean, null, bad}
use Rattle.json.specs.Word.{ends_word, word}
use Rattle.json.specs.Lex.{Lexeme, token, comma, colon, string_token, lex, between, fresh, punctuate, tokens}
use Rattle.json.specs.Print.{escape, quoted, token_text, begins, ends, separator, print_from, print, IsPrintableOrBad, ArePrintableOrBad}
use Rattle.json.specs.Json as json
use Rattle.json.proofs.Printed.Strings.{content-escape, lex-escape}
use Rattle.json.proofs.Printed.Numbers.{lex-number, in_word-ended}
use Rattle.json.proofs.Numbered.{ArePrintableOrBad-tokens}
use Rattle.serde_json.specs.Data.{Data}
use Rattle.serde_json.specs.Read.{read, of_json, max_depth}
use Rattle.flat_json.specs.JsonTree.{tree_in}
use Rattle.flat_json.proofs.JsonTree.{tree_in-some}

-- what a token's text is cut into
abbrev token_lexemes : Token → List Lexeme
token_lexemes begin_object = token begin_object ∷ []
token_lexemes end_object = token end_object ∷ []
token_lexemes begin_array = token begin_array ∷ []
token_lexemes end_array = token end_array ∷ []
token_lexemes (key s) = token (string s) ∷ colon ∷ []
token_lexemes (string s) = token (string s) ∷ []
token_lexemes (number s) = token (number s) ∷ []
token_lexemes (boolean b) = token (boolean b) ∷ []
token_lexemes null = token null ∷ []
token_lexemes bad = []

lex-quoted : (s r : List ℕ) → lex between (quoted s ++ r) ≡ token (string s) ∷ lex between r
unfolding lex
lex-quoted s r =
    let e = append_assoc (escape s) (34 ∷ []) r in
    ap (λ l. lex between (34 ∷ l)) e ∙ ap₂ (λ o l. token (string_token o) ∷ l) (content-escape s r) (lex-escape s r)

lex-token_text : (t : Token) (r : List ℕ) → IsPrintableOrBad t → (ends t ≡ true → ends_word r ≡ true) → lex between (token_text t ++ r) ≡ token_lexemes t ++ lex between r
unfolding lex word
lex-token_text begin_object r h ended = refl
lex-token_text end_object r h ended = refl
lex-token_text begin_array r h ended = refl
lex-token_text end_array r h ended = refl
lex-token_text (key s) r h ended = ap (lex between) (append_assoc (quoted s) (58 ∷ []) r) ∙ lex-quoted s (58 ∷ r)
lex-token_text (string s) r h ended = lex-quoted s r
lex-token_text (number s) r h ended = lex-number s r h (ended refl)
lex-token_text (boolean true) r h ended = ap₂ (λ b l. token (cond b (boolean true) bad) ∷ l) (ended refl) (in_word-ended r (ended refl))
lex-token_text (boolean false) r h ended = ap₂ (λ b l. token (cond b (boolean false) bad) ∷ l) (ended refl) (in_word-ended r (ended refl))
lex-token_text null r h ended = ap₂ (λ b l. token (cond b null bad) ∷ l) (ended refl) (in_word-ended r (ended refl))
lex-token_text bad r h ended = refl

lex-separator : (b : Bool) (r : List ℕ) → lex between (cond b (44 ∷ []) [] ++ r) ≡ cond b (comma ∷ []) [] ++ lex between r
unfolding lex
lex-separator true r = refl
lex-separator false r = refl

-- after a value stands a comma, a closing bracket or the tail
value_ended : (tail : List ℕ) (ts : List Token) → ends_word tail ≡ true → ends_word (print_from true ts ++ tail) ≡ true
unfolding print_from
value_ended tail [] h = h
value_ended tail (begin_object ∷ ts) h = refl
value_ended tail (end_object ∷ ts) h = refl
value_ended tail (begin_array ∷ ts) h = refl
value_ended tail (end_array ∷ ts) h = refl
value_ended tail (key s ∷ ts) h = refl
value_ended tail (string s ∷ ts) h = refl
value_ended tail (number s ∷ ts) h = refl
value_ended tail (boolean b ∷ ts) h = refl
value_ended tail (null ∷ ts) h = refl
value_ended tail (bad ∷ ts) h = refl

abbrev lexemes : Bool → List Token → List Lexeme → List Lexeme
lexemes c [] end = end
lexemes c (t ∷ ts) end = cond (c && begins t) (comma ∷ []) [] ++ (token_lexemes t ++ lexemes (ends t) ts end)

lex-print_from : (tail : List ℕ) (c : Bool) (ts : List Token) → ends_word tail ≡ true → ArePrintableOrBad ts → lex between (print_from c ts ++ tail) ≡ lexemes c ts (lex between tail)
unfolding print_from
lex-print_from tail c [] ended h = refl
lex-print_from tail c (t ∷ ts) ended h =
    ap (lex between) (append_assoc (separator c t) (token_text t ++ print_from (ends t) ts) tail ∙ ap (λ l. separator c t ++ l) (append_assoc (token_text t) (print_from (ends t) ts) tail))
    ∙ lex-separator (c && begins t) (token_text t ++ (print_from (ends t) ts ++ tail))
    ∙ ap (λ l. cond (c && begins t) (comma ∷ []) [] ++ l)
    (lex-token_text t (print_from (ends t) ts ++ tail) h.0 (λ e. ap (λ b. ends_word (print_from b ts ++ tail)) e ∙ value_ended tail ts ended)
    ∙ ap (λ l. token_lexemes t ++ l) (lex-print_from tail (ends t) ts ended h.1))

tokens_line_end : (ts : List Token) → ArePrintableOrBad ts → tokens (print ts ++ 10 ∷ []) ≡ tokens (print ts ++ [])
unfolding lex
tokens_line_end ts h =
    ap (punctuate fresh) (lex-print_from (10 ∷ []) false ts refl h ∙ sym (lex-print_from [] false ts refl h))

whole : List Token → Option Data
whole ts = option_and_then of_json (option_and_then (λ p. json.if_last p.0 p.1) (json.value max_depth ts))

line_ascii : IsAscii (10 ∷ [])
line_ascii zero = omega arith
line_ascii (suc i) = omega arith

-- what a compact text reads as, with a line end
pub tree_in-line_end : (t : List ℕ) (d : Data) → t ≡ print (tokens t) → IsUtf8 t → read t ≡ Some d → tree_in (t ++ 10 ∷ []) ≡ Some d
unfolding whole
tree_in-line_end t d compact utf8 is =
    let same : tokens (t ++ 10 ∷ []) ≡ tokens t =
    ap (λ s. tokens (s ++ 10 ∷ [])) compact ∙ tokens_line_end (tokens t) (ArePrintableOrBad-tokens t) ∙ ap tokens (append-nil (print (tokens t)) ∙ sym compact) in
    tree_in-some (t ++ 10 ∷ []) d (IsUtf8-append t (10 ∷ []) utf8 (IsUtf8-from_ascii (10 ∷ []) line_ascii), ap whole same ∙ is)
