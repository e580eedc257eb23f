-- What a tree means.
use Rattle.serde_json.specs.Data.{Data}
use Rattle.flat_json.specs.Stores.{data_in}
use Rattle.flat_json.specs.declared.node.Node.{Node}
use Rattle.flat_json.specs.declared.tree.Tree.{Tree}

-- what a node of the tree means
unfoldable pub data_of : Tree → Node → Data
data_of tree n = data_in tree.store n

-- what the whole tree means
unfoldable pub top_of : Tree → Data
top_of tree = data_of tree tree.top
