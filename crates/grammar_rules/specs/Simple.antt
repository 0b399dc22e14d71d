-- Simple statements (the Python reference, chapter 7), with `print` as a statement and the pipelines of Codon.
--
--   simple  : 'pass' | 'break' | 'continue' | 'return' [items]
--           | 'yield' items | 'raise' NAME ['(' [expr] ')']
--           | 'assert' expr [',' expr] | NAME ':' type ['=' items]
--           | targets '=' items | target AUG items
--           | pipe | print | items
--   targets : target (',' target)* [',']
--   target  : NAME | postfix '[' expr ']' | postfix '.' NAME
--   items   : expr (',' expr)* [',']     (a tuple where a comma stands)
--   pipe    : expr (('|>' | '||>') stage)+
--   stage   : 'iter' | NAME ['(' [sarg (',' sarg)* [',']] ')']
--           | 'print' ['(' pargs ')']
--   sarg    : expr | '...'               (at most one '...')
--   print   : 'print' '(' pargs ')'
--   pargs   : [expr, ..] then [sep=expr] and [end=expr], either order
--
-- AUG is an operator with `=`. A tuple, a call and the printed values have at most 255 parts; the piped value is not
-- counted, and targets have no limit. No comma stands after the last printed value or option. `print` as a stage is the
-- print form, `iter` without brackets the one that sends on items; both are names where the grammar says NAME.
use Rattle.std.specs.Prelude.{◌≡◌, ℕ, ◌+◌, ◌≤◌, Bool, true, false, List, [], ◌∷◌, ◌++◌, length, map, Option, Some, None, codes}
use Rattle.indent_lexer.specs.declared.token.Token.{Token}
use Rattle.source_trees.specs.declared.expression.Commas.TheVariants.{Bare}
use Rattle.source_trees.specs.declared.expression.Expr.{Expr}
use Rattle.source_trees.specs.declared.expression.Expr.TheVariants as e
use Rattle.source_trees.specs.declared.item.Annotation.{Annotation}
use Rattle.source_trees.specs.declared.node.Node.{Node}
use Rattle.source_trees.specs.declared.node.Name.{Name}
use Rattle.source_trees.specs.declared.operator.BinaryOp.{BinaryOp}
use Rattle.source_trees.specs.declared.pipeline.Joint.{Joint}
use Rattle.source_trees.specs.declared.pipeline.Joint.TheVariants.{InTurn, InParallel}
use Rattle.source_trees.specs.declared.pipeline.PrintOptions.{PrintOptions}
use Rattle.source_trees.specs.declared.pipeline.PrintOptions.TheVariants as options
use Rattle.source_trees.specs.declared.pipeline.Printed.{Printed}
use Rattle.source_trees.specs.declared.pipeline.Stage.{Stage}
use Rattle.source_trees.specs.declared.pipeline.StageForm.{StageForm}
use Rattle.source_trees.specs.declared.pipeline.StageForm.TheVariants as form
use Rattle.source_trees.specs.declared.statement.Stmt.{Stmt}
use Rattle.source_trees.specs.declared.statement.Stmt.TheVariants as stmt
use Rattle.source_trees.specs.declared.statement.Target.{Target}
use Rattle.source_trees.specs.declared.statement.Target.TheVariants as target
use Rattle.source_trees.specs.declared.statement.Targets.{Targets}
use Rattle.source_trees.specs.declared.statement.Targets.TheVariants as targets
use Rattle.parse_laws.specs.Loops.{Listed}
use Rattle.grammar_rules.specs.Expressions.{node_of, IsExpr, IsPostfix, IsRow}
use Rattle.grammar_rules.specs.Levels.{updates}
use Rattle.grammar_rules.specs.Types.{IsType}
use Rattle.grammar_rules.specs.Words.{is_op, is_keyword, is_word, is_comma, name_of, name_at, look_up, node_at, most_items}

-- ---- expressions and targets with commas

-- one expression, or a tuple where a comma stands
pub data IsItems : List Token → Expr → Type 0 where
  item : (a : List Token) (x : Expr) → IsRow a (x ∷ [], false) → IsItems a x
  tuple : (a : List Token) (x : Expr) (xs : List Expr) → IsRow a (x ∷ xs, true) → length (x ∷ xs) ≤ most_items
      → IsItems a (e.Tuple (node_of x) Bare (x ∷ xs))

pub data IsTarget : List Token → Target → Type 0 where
  name : (t : Token) (spelling : List ℕ) → name_of t ≡ Some spelling → IsTarget (t ∷ []) (target.Name (node_at t) spelling)
  index : (a : List Token) (x : Expr) (open_token : Token) (b : List Token) (y : Expr) (close_token : Token)
      → IsPostfix a x → is_op (codes "[") open_token ≡ true → IsExpr b y → is_op (codes "]") close_token ≡ true
      → IsTarget (a ++ open_token ∷ (b ++ close_token ∷ [])) (target.Index (node_of x) x y)
  field : (a : List Token) (x : Expr) (dot t : Token) (spelling : List ℕ)
      → IsPostfix a x → is_op (codes ".") dot ≡ true → name_of t ≡ Some spelling
      → IsTarget (a ++ dot ∷ t ∷ []) (target.Field (node_of x) x spelling)

-- the node that a target begins with
abbrev pub node_of_target : Target → Node
node_of_target (target.Name n spelling) = n
node_of_target (target.Index n object at) = n
node_of_target (target.Field n object spelling) = n

abbrev pub node_of_targets : Targets → Node
node_of_targets (targets.One x) = node_of_target x
node_of_targets (targets.Several n xs) = n

pub data IsTargets : List Token → Targets → Type 0 where
  one : (a : List Token) (x : Target) → IsTarget a x → IsTargets a (targets.One x)
  several : (a : List Token) (x : Target) (xs : List Target) → Listed is_comma IsTarget a (x ∷ xs, true)
      → IsTargets a (targets.Several (node_of_target x) (x ∷ xs))

-- ---- print

-- expressions with commas between, and none after the last
pub data IsValues : List Token → List Expr → Type 0 where
  last : (a : List Token) (x : Expr) → IsExpr a x → IsValues a (x ∷ [])
  another : (a : List Token) (x : Expr) (comma : Token) (b : List Token) (xs : List Expr)
      → IsExpr a x → is_comma comma ≡ true → IsValues b xs → IsValues (a ++ comma ∷ b) (x ∷ xs)

-- an option of this name
pub data IsOption (word : List ℕ) : List Token → Expr → Type 0 where
  option : (t equals : Token) (a : List Token) (x : Expr) → is_word word t ≡ true → is_op (codes "=") equals ≡ true → IsExpr a x
      → IsOption word (t ∷ equals ∷ a) x

pub data IsOptions : List Token → PrintOptions → Type 0 where
  sep : (a : List Token) (x : Expr) → IsOption (codes "sep") a x → IsOptions a (options.Sep x)
  end_text : (a : List Token) (x : Expr) → IsOption (codes "end") a x → IsOptions a (options.End x)
  sep_end : (a : List Token) (x : Expr) (comma : Token) (b : List Token) (y : Expr)
      → IsOption (codes "sep") a x → is_comma comma ≡ true → IsOption (codes "end") b y → IsOptions (a ++ comma ∷ b) (options.SepEnd x y)
  end_sep : (a : List Token) (x : Expr) (comma : Token) (b : List Token) (y : Expr)
      → IsOption (codes "end") a x → is_comma comma ≡ true → IsOption (codes "sep") b y → IsOptions (a ++ comma ∷ b) (options.EndSep x y)

-- what stands in the brackets of `print(..)`
pub data IsPrinted : List Token → Printed → Type 0 where
  nothing : IsPrinted [] (record { values = []; options = options.Neither })
  values_alone : (a : List Token) (xs : List Expr) → IsValues a xs → length xs ≤ most_items → IsPrinted a (record { values = xs; options = options.Neither })
  options_alone : (a : List Token) (o : PrintOptions) → IsOptions a o → IsPrinted a (record { values = []; options = o })
  both : (a : List Token) (xs : List Expr) (comma : Token) (b : List Token) (o : PrintOptions)
      → IsValues a xs → length xs ≤ most_items → is_comma comma ≡ true → IsOptions b o
      → IsPrinted (a ++ comma ∷ b) (record { values = xs; options = o })

pub data IsPrint : List Token → Printed → Type 0 where
  printed : (t open_token : Token) (a : List Token) (p : Printed) (close_token : Token)
      → is_word (codes "print") t ≡ true → is_op (codes "(") open_token ≡ true → IsPrinted a p → is_op (codes ")") close_token ≡ true
      → IsPrint (t ∷ open_token ∷ (a ++ close_token ∷ [])) p

-- ---- pipelines

-- an argument of a stage, none where the piped value stands
pub data IsStageArgument : List Token → Option Expr → Type 0 where
  value : (a : List Token) (x : Expr) → IsExpr a x → IsStageArgument a (Some x)
  piped : (t : Token) → is_op (codes "...") t ≡ true → IsStageArgument (t ∷ []) None

-- the arguments of a stage in its brackets: those before the piped value, which comes first where it is not written, and those after it
pub data IsStageArguments : List Token → List Expr → List Expr → Type 0 where
  no_arguments : IsStageArguments [] [] []
  unplaced : (a : List Token) (xs : List Expr) (more : Bool)
      → Listed is_comma IsStageArgument a (map Some xs, more) → length xs ≤ most_items → IsStageArguments a [] xs
  placed : (a : List Token) (xs ys : List Expr) (more : Bool)
      → Listed is_comma IsStageArgument a (map Some xs ++ None ∷ map Some ys, more) → length xs + length ys ≤ most_items → IsStageArguments a xs ys

pub data IsStageForm : List Token → StageForm → Type 0 where
  iter : (t : Token) → is_word (codes "iter") t ≡ true → IsStageForm (t ∷ []) form.Iter
  name : (t : Token) (spelling : List ℕ) → name_of t ≡ Some spelling → is_word (codes "iter") t ≡ false → is_word (codes "print") t ≡ false
      → IsStageForm (t ∷ []) (form.Call spelling [] [])
  call : (t : Token) (spelling : List ℕ) (open_token : Token) (a : List Token) (before after : List Expr) (close_token : Token)
      → name_of t ≡ Some spelling → is_word (codes "print") t ≡ false → is_op (codes "(") open_token ≡ true
      → IsStageArguments a before after → is_op (codes ")") close_token ≡ true
      → IsStageForm (t ∷ open_token ∷ (a ++ close_token ∷ [])) (form.Call spelling before after)
  print_alone : (t : Token) → is_word (codes "print") t ≡ true → IsStageForm (t ∷ []) (form.Print (record { values = []; options = options.Neither }))
  print_of : (a : List Token) (p : Printed) → IsPrint a p → IsStageForm a (form.Print p)

-- the operators that join stages
abbrev pub joints : List (List ℕ × Joint)
joints = (codes "|>", InTurn) ∷ (codes "||>", InParallel) ∷ []

-- stages, each with its operator; a stage stands at its name
pub data IsStages : List Token → List Stage → Type 0 where
  last : (t : Token) (j : Joint) (u : Token) (a : List Token) (f : StageForm)
      → look_up joints t ≡ Some j → IsStageForm (u ∷ a) f → IsStages (t ∷ u ∷ a) (record { node = node_at u; joint = j; form = f } ∷ [])
  another : (t : Token) (j : Joint) (u : Token) (a : List Token) (f : StageForm) (b : List Token) (more : List Stage)
      → look_up joints t ≡ Some j → IsStageForm (u ∷ a) f → IsStages b more
      → IsStages (t ∷ u ∷ (a ++ b)) (record { node = node_at u; joint = j; form = f } ∷ more)

-- ---- statements

pub data IsSimple : List Token → Stmt → Type 0 where
  pass : (t : Token) → is_keyword (codes "pass") t ≡ true → IsSimple (t ∷ []) (stmt.Pass (node_at t))
  break : (t : Token) → is_keyword (codes "break") t ≡ true → IsSimple (t ∷ []) (stmt.Break (node_at t))
  continue : (t : Token) → is_keyword (codes "continue") t ≡ true → IsSimple (t ∷ []) (stmt.Continue (node_at t))
  return : (t : Token) → is_keyword (codes "return") t ≡ true → IsSimple (t ∷ []) (stmt.Return (node_at t) None)
  return_value : (t : Token) (a : List Token) (x : Expr) → is_keyword (codes "return") t ≡ true → IsItems a x
      → IsSimple (t ∷ a) (stmt.Return (node_at t) (Some x))
  yield : (t : Token) (a : List Token) (x : Expr) → is_keyword (codes "yield") t ≡ true → IsItems a x
      → IsSimple (t ∷ a) (stmt.Yield (node_at t) x)
  raise : (t u : Token) (name : Name) → is_keyword (codes "raise") t ≡ true → name_at u ≡ Some name
      → IsSimple (t ∷ u ∷ []) (stmt.Raise (node_at t) name None)
  raise_called : (t u : Token) (name : Name) (open_token close_token : Token) → is_keyword (codes "raise") t ≡ true → name_at u ≡ Some name
      → is_op (codes "(") open_token ≡ true → is_op (codes ")") close_token ≡ true
      → IsSimple (t ∷ u ∷ open_token ∷ close_token ∷ []) (stmt.Raise (node_at t) name None)
  raise_text : (t u : Token) (name : Name) (open_token : Token) (a : List Token) (x : Expr) (close_token : Token)
      → is_keyword (codes "raise") t ≡ true → name_at u ≡ Some name
      → is_op (codes "(") open_token ≡ true → IsExpr a x → is_op (codes ")") close_token ≡ true
      → IsSimple (t ∷ u ∷ open_token ∷ (a ++ close_token ∷ [])) (stmt.Raise (node_at t) name (Some x))
  assert : (t : Token) (a : List Token) (x : Expr) → is_keyword (codes "assert") t ≡ true → IsExpr a x
      → IsSimple (t ∷ a) (stmt.Assert (node_at t) x None)
  assert_text : (t : Token) (a : List Token) (x : Expr) (comma : Token) (b : List Token) (y : Expr)
      → is_keyword (codes "assert") t ≡ true → IsExpr a x → is_comma comma ≡ true → IsExpr b y
      → IsSimple (t ∷ (a ++ comma ∷ b)) (stmt.Assert (node_at t) x (Some y))
  annotated : (t : Token) (name : Name) (colon : Token) (a : List Token) (type : Annotation)
      → name_at t ≡ Some name → is_op (codes ":") colon ≡ true → IsType a type
      → IsSimple (t ∷ colon ∷ a) (stmt.Annotated (node_at t) name type None)
  annotated_value : (t : Token) (name : Name) (colon : Token) (a : List Token) (type : Annotation) (equals : Token) (b : List Token) (x : Expr)
      → name_at t ≡ Some name → is_op (codes ":") colon ≡ true → IsType a type → is_op (codes "=") equals ≡ true → IsItems b x
      → IsSimple (t ∷ colon ∷ (a ++ equals ∷ b)) (stmt.Annotated (node_at t) name type (Some x))
  assign : (a : List Token) (x : Targets) (equals : Token) (b : List Token) (y : Expr)
      → IsTargets a x → is_op (codes "=") equals ≡ true → IsItems b y
      → IsSimple (a ++ equals ∷ b) (stmt.Assign (node_of_targets x) x y)
  update : (a : List Token) (x : Target) (t : Token) (o : BinaryOp) (b : List Token) (y : Expr)
      → IsTarget a x → look_up updates t ≡ Some o → IsItems b y
      → IsSimple (a ++ t ∷ b) (stmt.Update (node_of_target x) x o y)
  pipeline : (a : List Token) (x : Expr) (b : List Token) (stages : List Stage)
      → IsExpr a x → IsStages b stages → IsSimple (a ++ b) (stmt.Pipeline (node_of x) x stages)
  print : (t : Token) (a : List Token) (p : Printed) → IsPrint (t ∷ a) p → IsSimple (t ∷ a) (stmt.Print (node_at t) p)
  evaluate : (a : List Token) (x : Expr) → IsItems a x → IsSimple a (stmt.Evaluate (node_of x) x)
