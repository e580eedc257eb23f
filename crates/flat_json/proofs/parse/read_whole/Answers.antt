use Rattle.std.proofs.Common.{◌≡◌, [], rules}
use Rattle.json.specs.Json.{value}
use Rattle.json.specs.Lex.{tokens}
use Rattle.flat_json.specs.Stores.{data_in}
use Rattle.flat_json.specs.Trees.{data_of, top_of}
use Rattle.flat_json.proofs.Reading.{whole_read}
use Rattle.flat_json.proofs.parse.read_whole.Goals as goal

pub returns-clause-ok : goal.returns-clause-ok
unfolding top_of data_of
returns-clause-ok c =
    let none : c.read.new.reader ≡ [] = search rules in
    whole_read (value 127 (tokens c.args.text.now)) (data_in c.read.new.store c.in_ok-top.top) (rw (c.in_ok-reader.ensures.ok, none) at c.in_ok-top.ensures.ok)
