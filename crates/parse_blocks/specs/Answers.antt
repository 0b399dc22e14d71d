-- What a list of tokens has: a tree within the limit of height, or the place of its first bad token.
use Rattle.std.specs.Prelude.{◌≡◌, ℕ, true, List, [], ◌∷◌, ◌++◌}
use Rattle.codon_base.specs.declared.memory.Or.{Or}
use Rattle.codon_base.specs.declared.memory.Or.TheVariants.{No, Memory}
use Rattle.indent_lexer.specs.declared.token.Token.{Token}
use Rattle.source_trees.specs.declared.item.Module.{Module}
use Rattle.parse_laws.specs.Language.{Language}
use Rattle.parse_laws.specs.Limits.{Limited}
use Rattle.grammar_rules.specs.declared.refusal.ParseRefusal.{ParseRefusal}
use Rattle.grammar_rules.specs.Modules.{Derives, Tree, Source}
use Rattle.grammar_rules.specs.Refusals.{IsLow, IsParsePlace}
use Rattle.grammar_rules.specs.Words.{is_end}

-- the list ends with the end of a text
abbrev pub IsText : List Token → Type 0
IsText ts = (a : List Token) × (t : Token) × (ts ≡ a ++ t ∷ []) × (is_end t ≡ true)

-- the end of a text stands in the list, whatever follows it
abbrev pub HoldsEnd : List Token → Type 0
HoldsEnd ts = (a : List Token) × (b : List Token) × (t : Token) × (ts ≡ a ++ t ∷ b) × (is_end t ≡ true)

-- a tree of the list within the limit of height, without its numbers
abbrev pub DerivesLow : Language Token Module
DerivesLow = Limited Derives IsLow

abbrev pub HasTree : List Token → Type 0
HasTree ts = (m : Module) × DerivesLow ts m

abbrev pub HasPlace : List Token → Type 0
HasPlace ts = (p : ParseRefusal) × IsParsePlace ts p

-- why the parser gives up: want of memory says nothing
abbrev pub IsPlaceOf : List Token → Or ParseRefusal → Type 0
IsPlaceOf ts (No p) = IsParsePlace ts p
IsPlaceOf ts Memory = Unit {0}

-- a tree of the list, with its numbers
abbrev pub HasNumberedTree : List Token → Type 0
HasNumberedTree ts = (m : Module) × Tree ts m

-- the tree of a source text
abbrev pub HasSource : List ℕ → Type 0
HasSource b = (m : Module) × Source b m
