-- What the laws of the parser say of the tokens of a text: `parse` takes them, and they have one tree or one place of a first bad token.
use Rattle.std.proofs.Common.{◌≡◌, ℕ, ◌<◌, ◌^◌, List, length}
use Rattle.indent_lexer.specs.declared.token.Token.{Token}
use Rattle.indent_lexer.specs.Tokens.{Tokens}
use Rattle.source_trees.specs.declared.item.Module.{Module}
use Rattle.grammar_rules.specs.declared.refusal.ParseRefusal.{ParseRefusal}
use Rattle.grammar_rules.specs.Modules.{Tree}
use Rattle.grammar_rules.specs.Refusals.{IsParsePlace}
use Rattle.parse_statements.specs.Code.{readers}
use Rattle.parse_blocks.specs.Answers.{HoldsEnd}
use Rattle.parse_blocks.proofs.ExactReaders.{exact_readers}
use Rattle.parse_blocks.proofs.Trees as trees
use Rattle.tree_parser.proofs.Counts.{few_tokens}
use Rattle.tree_parser.proofs.Parsed.{lexed_hold_end}

pub hold_end : (text : List ℕ) (ts : List Token) → Tokens text ts → HoldsEnd ts
hold_end = lexed_hold_end

pub few : (text : List ℕ) (ts : List Token) → Tokens text ts → length ts < 2 ^ 30
few = few_tokens

pub apart_tree : (ts : List Token) (m : Module) (p : ParseRefusal) → Tree ts m → IsParsePlace ts p → ⊥
apart_tree = trees.apart_tree

pub only_tree : (ts : List Token) (m w : Module) → Tree ts m → Tree ts w → w ≡ m
only_tree = trees.only_tree readers exact_readers

pub one_place : (ts : List Token) (p q : ParseRefusal) → IsParsePlace ts p → IsParsePlace ts q → p ≡ q
one_place = trees.one_place
