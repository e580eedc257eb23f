-- Values of one token.
use Rattle.std.proofs.Common.{◌≡◌, ℕ, List, ◌∷◌, Bool, Some, None, option_map, sym, ap, ◌∙◌}
use Rattle.json.specs.Token.{Token}
use Rattle.json.specs.Json.{value}
use Rattle.json.proofs.Grammar.{value_is}
use Rattle.serde_json.specs.Data.{Num, number, string}
use Rattle.serde_json.specs.Read.{of_json, number_of, converted}
use Rattle.flat_json.specs.Stores.{data_in}
use Rattle.flat_json.specs.declared.node.Node.{Node}
use Rattle.flat_json.specs.declared.node.Node.TheVariants as node
use Rattle.flat_json.specs.declared.store.Store.{Store}

module _ (s : Store) (depth : ℕ) (ts rest : List Token) where
  pub null_read : ts ≡ Token.null ∷ rest → converted of_json (value depth ts) ≡ Some (data_in s node.Null, rest)
  unfolding data_in
  null_read is = ap (converted of_json) (ap (value depth) is ∙ value_is depth (Token.null ∷ rest))

  pub boolean_read : (b : Bool) → ts ≡ Token.boolean b ∷ rest → converted of_json (value depth ts) ≡ Some (data_in s (node.Bool b), rest)
  unfolding data_in
  boolean_read b is = ap (converted of_json) (ap (value depth) is ∙ value_is depth (Token.boolean b ∷ rest))

  pub string_read : (text : List ℕ) (n : Node) → ts ≡ Token.string text ∷ rest → data_in s n ≡ string text → converted of_json (value depth ts) ≡ Some (data_in s n, rest)
  string_read text n is means =
      ap (converted of_json) (ap (value depth) is ∙ value_is depth (Token.string text ∷ rest)) ∙ ap (λ d. Some (d, rest)) (sym means)

  pub number_read : (text : List ℕ) (num : Num) (n : Node) → ts ≡ Token.number text ∷ rest → number_of text ≡ Some num → data_in s n ≡ number num → converted of_json (value depth ts) ≡ Some (data_in s n, rest)
  number_read text num n is read means =
      ap (converted of_json) (ap (value depth) is ∙ value_is depth (Token.number text ∷ rest)) ∙ ap (λ o. option_map (λ d. (d, rest)) (option_map number o)) read ∙ ap (λ d. Some (d, rest)) (sym means)

  pub number_refused : (text : List ℕ) → ts ≡ Token.number text ∷ rest → number_of text ≡ None → converted of_json (value depth ts) ≡ None
  number_refused text is read =
      ap (converted of_json) (ap (value depth) is ∙ value_is depth (Token.number text ∷ rest)) ∙ ap (λ o. option_map (λ d. (d, rest)) (option_map number o)) read
