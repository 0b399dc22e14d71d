-- Printing and pipelines under a closed relation.
use Rattle.std.proofs.Common.{ℕ, List, [], ◌∷◌, ◌++◌, length, Option, Some, None}
use Rattle.codon_base.specs.declared.value.Value.{Value}
use Rattle.source_trees.specs.declared.expression.Expr.{Expr}
use Rattle.source_trees.specs.declared.pipeline.PrintOptions.{PrintOptions}
use Rattle.source_trees.specs.declared.pipeline.PrintOptions.TheVariants as options
use Rattle.source_trees.specs.declared.pipeline.Printed.{Printed}
use Rattle.source_trees.specs.declared.pipeline.Joint.{Joint}
use Rattle.source_trees.specs.declared.pipeline.Joint.TheVariants.{InTurn, InParallel}
use Rattle.source_trees.specs.declared.pipeline.StageForm.{StageForm}
use Rattle.source_trees.specs.declared.pipeline.StageForm.TheVariants as form
use Rattle.source_trees.specs.declared.pipeline.Stage.{Stage}
use Rattle.meaning_rules.specs.State.{Spelling, Flow}
use Rattle.meaning_rules.specs.Outcome.{Run}
use Rattle.meaning_rules.specs.Bodies.{yields}
use Rattle.meaning_rules.specs.Mentions.{notes_of_stages}
use Rattle.meaning_rules.specs.Program.{Program, Scope, Callee, Defined, Constructor, Standard, Variable, Unknown, callee}
use Rattle.meaning_rules.specs.Task.{Region, Consumer, Task, Rules, Setting}
use Rattle.meaning_rules.specs.Loops.{Iterable, Items, Generated}
use Rattle.meaning_rules.specs.Printing as printing
use Rattle.meaning_rules.specs.Printing.{Ends}
use Rattle.meaning_rules.specs.Pipelines as pipelines
use Rattle.meaning_rules.proofs.Closed.{Relation, Closed, chain, gives, pick}
use Rattle.meaning_rules.proofs.ClosedObjects.{operate_closed, text_in_closed, read_name_closed}
use Rattle.meaning_rules.proofs.ClosedLoops.{here, there, begin_closed, call_closed, construct_closed, over_closed}
use Rattle.meaning_rules.proofs.ClosedExpressions.{call_builtin_closed, expr_closed, iterable_closed, exprs_closed}

module _ (program : Program) {R : Relation} {rules : Rules} {limit more : ℕ} {low high : List Consumer → Task → Run Flow} (c : Closed R rules limit more low high) where
  abbrev less : Setting
  less = here program c

  abbrev greater : Setting
  greater = there program c

  -- ---- print

  text_of_value_closed : {n : ℕ} (v : Value) → R n (List ℕ) (printing.text_of_value rules v) (printing.text_of_value rules v)
  text_of_value_closed v = chain c (operate_closed c (printing.text_made v)) (λ text. text_in_closed c _)

  texts_of_closed : {n : ℕ} (vs : List Value) → R n (List (List ℕ)) (printing.texts_of rules vs) (printing.texts_of rules vs)
  texts_of_closed [] = gives c _
  texts_of_closed (v ∷ vs) = chain c (text_of_value_closed v) (λ text. chain c (texts_of_closed vs) (λ texts. gives c _))

  print_closed : {n : ℕ} (vs : List Value) (ends : Ends) → R n (Unit {0}) (printing.print rules vs ends) (printing.print rules vs ends)
  print_closed vs ends = chain c (text_in_closed c _) (λ between. chain c (text_in_closed c _) (λ last. chain c (texts_of_closed vs) (λ texts. c.writes _ _)))

  ends_closed : (scope : Scope) (o : PrintOptions) → R 0 Ends (printing.ends less scope o) (printing.ends greater scope o)
  ends_closed scope options.Neither = gives c _
  ends_closed scope (options.Sep sep) = chain c (expr_closed program c scope sep) (λ v. gives c _)
  ends_closed scope (options.End last) = chain c (expr_closed program c scope last) (λ v. gives c _)
  ends_closed scope (options.SepEnd sep last) = chain c (expr_closed program c scope sep) (λ v. chain c (expr_closed program c scope last) (λ w. gives c _))
  ends_closed scope (options.EndSep last sep) = chain c (expr_closed program c scope last) (λ w. chain c (expr_closed program c scope sep) (λ v. gives c _))

  pub print_after_closed : {n : ℕ} (scope : Scope) (piped : List Value) (printed : Printed) → R n (Unit {0}) (printing.print_after less scope piped printed) (printing.print_after greater scope piped printed)
  print_after_closed scope piped printed =
      c.lifts _ _ _ _ (chain c (exprs_closed program c scope printed.values) (λ vs. chain c (ends_closed scope printed.options) (λ ends. print_closed (piped ++ vs) ends)))

  -- ---- stages

  module _ (consumers : List Consumer) (scope : Scope) where
    loop_over_closed : (goes_over : Iterable) (region : Option Region) (stages : List Stage) (rest after : Value → Run Flow) → ((v : Value) → R (length consumers) Flow (rest v) (after v)) → R (length consumers) Flow (pipelines.loop_over less consumers scope goes_over region stages rest) (pipelines.loop_over greater consumers scope goes_over region stages after)
    loop_over_closed goes_over region stages rest after e = chain c (over_closed program c consumers goes_over _ rest after e) (λ flow. gives c _)

    call_stage_closed : (called : Callee) (name : Spelling) (given : List Value) (region : Option Region) (stages : List Stage) (rest after : Value → Run Flow) → ((v : Value) → R (length consumers) Flow (rest v) (after v)) → R (length consumers) Flow (pipelines.call_stage less consumers scope called name given region stages rest) (pipelines.call_stage greater consumers scope called name given region stages after)
    call_stage_closed (Defined known) name given region stages rest after e =
        pick c (yields known.function.body) (loop_over_closed (Generated known given) region stages rest after e) (chain c (c.lifts _ _ _ _ (call_closed program c known given)) e)
    call_stage_closed (Constructor number class) name given region stages rest after e = chain c (c.lifts _ _ _ _ (construct_closed program c number class given)) e
    call_stage_closed (Standard which) name given region stages rest after e = chain c (c.lifts _ _ _ _ (call_builtin_closed program c which given)) e
    call_stage_closed Variable name given region stages rest after e = chain c (read_name_closed c program scope name) (λ _. c.stops _ _ _)
    call_stage_closed Unknown name given region stages rest after e = c.stops _ _ _

    pub perform_closed : (f : StageForm) (region : Option Region) (stages : List Stage) (rest after : Value → Run Flow) → ((v : Value) → R (length consumers) Flow (rest v) (after v)) → (v : Value) → R (length consumers) Flow (pipelines.perform less consumers scope f region stages rest v) (pipelines.perform greater consumers scope f region stages after v)
    perform_closed form.Iter region stages rest after e v = loop_over_closed (Items v) region stages rest after e
    perform_closed (form.Call name before behind) region stages rest after e v =
        chain c (c.lifts _ _ _ _ (exprs_closed program c scope before)) (λ xs. chain c (c.lifts _ _ _ _ (exprs_closed program c scope behind)) (λ ys. call_stage_closed (callee program scope name) name (xs ++ v ∷ ys) region stages rest after e))
    perform_closed (form.Print printed) region stages rest after e v = chain c (print_after_closed scope (v ∷ []) printed) (λ _. e _)

    pub ahead_of_closed : (stages : List Stage) (run deed : Option Region → Run Flow) → ((region : Option Region) → R (length consumers) Flow (run region) (deed region)) → R (length consumers) Flow (pipelines.ahead_of less consumers scope stages run) (pipelines.ahead_of greater consumers scope stages deed)
    ahead_of_closed [] run deed e = e None
    ahead_of_closed (stage ∷ stages) run deed e = chain c (begin_closed program c scope [] (notes_of_stages (stage ∷ stages)) []) (λ region. c.regions _ region _ _ (e (Some region)))

    joined_closed : (joint : Joint) (region : Option Region) (stages : List Stage) (run deed : Option Region → Run Flow) → ((r : Option Region) → R (length consumers) Flow (run r) (deed r)) → (v : Value) → R (length consumers) Flow (pipelines.joined less consumers scope joint region stages run v) (pipelines.joined greater consumers scope joint region stages deed v)
    joined_closed InTurn region stages run deed e v = e region
    joined_closed InParallel None stages run deed e v = c.stops _ _ _
    joined_closed InParallel (Some region) stages run deed e v = chain c (c.ticks _) (λ _. c.items _ region v _ _ (ahead_of_closed (pipelines.parallel_part stages) run deed e))

    pub through_closed : (region : Option Region) (stages : List Stage) (v : Value) → R (length consumers) Flow (pipelines.through less consumers scope region stages v) (pipelines.through greater consumers scope region stages v)
    through_closed region [] v = gives c _
    through_closed region (stage ∷ stages) v = joined_closed stage.joint region stages _ _ (λ r. perform_closed stage.form r stages _ _ (through_closed r stages) v) v

    first_stage_closed : (head : Expr) (joint : Joint) (f : StageForm) (region : Option Region) (stages all : List Stage) → R (length consumers) Flow (pipelines.first_stage less consumers scope head joint f region stages all) (pipelines.first_stage greater consumers scope head joint f region stages all)
    first_stage_closed head InTurn form.Iter region stages all =
        chain c (c.lifts _ _ _ _ (iterable_closed program c scope head)) (λ goes_over. loop_over_closed goes_over region stages _ _ (through_closed region stages))
    first_stage_closed head InTurn (form.Call name before behind) region stages all = chain c (c.lifts _ _ _ _ (expr_closed program c scope head)) (through_closed region all)
    first_stage_closed head InTurn (form.Print printed) region stages all = chain c (c.lifts _ _ _ _ (expr_closed program c scope head)) (through_closed region all)
    first_stage_closed head InParallel f region stages all = chain c (c.lifts _ _ _ _ (expr_closed program c scope head)) (through_closed region all)

    from_head_closed : (head : Expr) (stages : List Stage) (region : Option Region) → R (length consumers) Flow (pipelines.from_head less consumers scope head stages region) (pipelines.from_head greater consumers scope head stages region)
    from_head_closed head [] region = chain c (c.lifts _ _ _ _ (expr_closed program c scope head)) (λ _. gives c _)
    from_head_closed head (stage ∷ stages) region = first_stage_closed head stage.joint stage.form region stages (stage ∷ stages)

    pub pipeline_closed : (head : Expr) (stages : List Stage) → R (length consumers) Flow (pipelines.pipeline less consumers scope head stages) (pipelines.pipeline greater consumers scope head stages)
    pipeline_closed head stages = ahead_of_closed (pipelines.parallel_part stages) _ _ (from_head_closed head stages)
