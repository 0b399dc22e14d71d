-- How a whole source is read: statements, functions and classes one after the other, each of the most height at most, and
-- the end of the text.
use Rattle.std.specs.Prelude.{ℕ, Bool, not, ◌||◌, List, [], ◌∷◌, map}
use Rattle.indent_lexer.specs.declared.token.Token.{Token}
use Rattle.source_trees.specs.declared.item.Item.{Item}
use Rattle.source_trees.specs.declared.item.Item.TheVariants as item
use Rattle.source_trees.specs.declared.item.Module.{Module}
use Rattle.source_trees.specs.declared.statement.Stmt.{Stmt}
use Rattle.parse_laws.specs.Parser.{Parser, ◌>>=◌, ◌>>◌, pure, choose, expect, all_of}
use Rattle.grammar_rules.specs.Modules.{most_height}
use Rattle.grammar_rules.specs.Words.{is_end}
use Rattle.parse_statements.specs.Readers.{Readers}
use Rattle.parse_blocks.specs.Blocks.{starts_stmt, statement}
use Rattle.parse_blocks.specs.Functions.{is_def, is_class, function, class}
use Rattle.parse_blocks.specs.Gather.{gather}

-- the token begins what may stand at the top
abbrev pub starts_top : Token → Bool
starts_top t = is_def t || (is_class t || starts_stmt t)

-- the token carries the items of a source on: it does not end the source
abbrev pub tops_on : Token → Bool
tops_on t = not (is_end t)

abbrev pub as_items : List Stmt → List Item
as_items ss = map item.Stmt ss

abbrev pub source_of : List Item → Module
source_of items = record { items = items }

module _ (r : Readers) where
  -- what stands at the top, at the height that it may have
  unfoldable pub top : ℕ → Parser Token (List Item)
  top n =
      choose is_def (function r n >>= λ f. pure (item.Function f ∷ []))
      (choose is_class (class r n >>= λ c. pure (item.Class c ∷ []))
      (statement r n >>= λ ss. pure (as_items ss)))

  unfoldable pub tops : ℕ → Parser Token (List Item)
  tops n = gather starts_top (top n) []

  -- a source whose items have this height at most
  unfoldable pub source_at : ℕ → Parser Token Module
  source_at n = tops n >>= λ items. expect is_end >> pure (source_of items)

  -- a whole source
  unfoldable pub source : Parser Token Module
  source = all_of (source_at most_height)
