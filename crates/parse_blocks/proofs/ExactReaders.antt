-- The readers that the code calls are exact.
use Rattle.std.proofs.Common.{◌≡◌, ℕ, List, refl, sym, ◌∙◌, ap}
use Rattle.indent_lexer.specs.declared.token.Token.{Token}
use Rattle.source_trees.specs.declared.expression.Comparison.{Comparison}
use Rattle.source_trees.specs.declared.expression.Expr.{Expr, Expr-F, out-Expr}
use Rattle.parse_laws.specs.Language.{Law}
use Rattle.parse_laws.specs.Limits.{Limited}
use Rattle.parse_laws.specs.Parser.{in_table}
use Rattle.parse_laws.proofs.Limits.{same_law}
use Rattle.parse_expressions.specs.Forms.{Low, carries}
use Rattle.parse_expressions.specs.Targets as below
use Rattle.parse_expressions.specs.TargetReading.{read_target}
use Rattle.parse_expressions.proofs.TargetLaw.{target_law}
use Rattle.parse_statements.specs.Code.{readers}
use Rattle.parse_statements.specs.Readers.{Exact}
use Rattle.parse_statements.specs.Targets as here
use Rattle.parse_blocks.proofs.Whole.{exact_with}

same_in : (f : Expr-F Expr Comparison) → below.target_in f ≡ here.target_in f
same_in (Expr-F.Name n spelling) = refl
same_in (Expr-F.Index n object index) = refl
same_in (Expr-F.Field n object spelling) = refl
same_in _ = refl

same_target : (x : Expr) → below.target_of x ≡ here.target_of x
unfolding below.target_of here.target_of
same_target x = same_in (out-Expr x)

up : (a : List Token) (x : Expr) → below.IsPointed a x → here.IsPointed a x
up a x p = (p.0, ap in_table (sym (same_target x)) ∙ p.1)

down : (a : List Token) (x : Expr) → here.IsPointed a x → below.IsPointed a x
down a x p = (p.0, ap in_table (same_target x) ∙ p.1)

reads_targets : (n : ℕ) (ts : List Token) → Law here.IsPointed (Limited here.IsPointed (Low n)) (carries 1) ts (read_target n ts)
reads_targets n ts = same_law below.IsPointed here.IsPointed (Low n) (carries 1) up down ts (read_target n ts) (target_law n ts)

pub exact_readers : Exact readers
exact_readers = exact_with read_target reads_targets
