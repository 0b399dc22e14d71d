-- The code of a module does what the module means. After each item the statements so far lead to a state, and the code so far to one of the machine that agrees with it, whatever follows; one more item leads on from there.
use Rattle.std.proofs.Common.{◌≡◌, ℕ, zero, suc, ◌+◌, ◌<◌, ◌≤◌, Bool, is_some, List, [], ◌∷◌, ◌++◌, Option, Some, None, replicate, length, drop, get_or, drop-cons, subst, refl, ap, sym, ◌∙◌, arith, append_assoc}
use Rattle.std.proofs.lemmas.Grind.{common_steps}
use Rattle.std.specs.List.{flat_map}
use Rattle.codon_base.specs.declared.source.Span.{Span}
use Rattle.codon_base.specs.declared.value.Value.{Value}
use Rattle.codon_base.specs.declared.value.Value.TheVariants as value
use Rattle.source_trees.specs.declared.statement.Stmt.{Stmt}
use Rattle.source_trees.specs.declared.item.Item.{Item}
use Rattle.source_trees.specs.declared.item.Item.TheVariants as item
use Rattle.source_trees.specs.declared.item.Module.{Module}
use Rattle.meaning_rules.specs.State.{Spelling, State, Next, OutOfFuel}
use Rattle.meaning_rules.specs.Outcome.{Gives, pure}
use Rattle.meaning_rules.specs.Bodies.{assigned_outside}
use Rattle.meaning_rules.specs.Program.{statement_in, statements_of, module_scope}
use Rattle.meaning_rules.specs.Task.{Setting}
use Rattle.meaning_rules.specs.Statements.{stmt, statements, then_next}
use Rattle.meaning_rules.specs.Meaning.{start, outcome, run, meaning, meaning_of}
use Rattle.meaning_rules.specs.Laws.{setting_of}
use Rattle.code_module.specs.declared.instr.Instr.{Instr}
use Rattle.code_module.specs.declared.module.Module.{Module as Code}
use Rattle.code_module.specs.Machine as machine
use Rattle.code_module.specs.Machine.{Done, run_from, run_of, entry_code}
use Rattle.straight_lines.specs.declared.emitter.Emitter.{Emitter}
use Rattle.straight_lines.specs.Names.{number_in, is_numbered, AreNumbers}
use Rattle.straight_lines.specs.Built.{first_of, no_name, known_after, unbuilt_from}
use Rattle.straight_lines.specs.Emitted.{text_table, end_code, run_at, of_module, Agree, EmitsStmt, EmitsItem}
use Rattle.straight_lines.specs.Compiled.{Compiles, IsEntry}
use Rattle.straight_lines.proofs.Numbered.{some_none, valid_none}
use Rattle.straight_lines.proofs.Meanings.{bind_gives}

-- with so many globals, statements and code lead to states that agree
pub record Leads (here : Setting) (fixed : List Spelling) (numbers : Spelling → Option ℕ) (code : List Instr) (body : List Stmt) (many : ℕ) : Type 0 where
  pub state : State
  pub globals : List Value
  pub size : length globals ≡ many
  pub agree : Agree numbers state globals
  pub means : (more : List Stmt) → statements here [] (of_module fixed) (body ++ more) start ≡ statements here [] (of_module fixed) more state
  pub runs : (rest : List Instr) → run_from text_table (code ++ rest) (machine.start many) ≡ run_at rest [] globals state.shared.out

abbrev pub Reaches : (Spelling → Option ℕ) → List Instr → List Stmt → ℕ → Type 0
Reaches numbers code body count = (here : Setting) (fixed : List Spelling) (many : ℕ) → count ≤ many → Leads here fixed numbers code body many

-- the items before these were compiled
pub record Follows (emitter : Emitter) (items rest : List Item) : Type 0 where
  pub body : List Stmt
  pub unbuilt : unbuilt_from no_name items ≡ unbuilt_from (is_numbered (number_in emitter.names)) rest
  pub stands : flat_map statement_in items ≡ body ++ flat_map statement_in rest
  pub valid : AreNumbers (number_in emitter.names) emitter.names.count
  pub reaches : Reaches (number_in emitter.names) emitter.code.items body emitter.names.count

-- ---- the beginning

length-replicate : (n : ℕ) (v : Value) → length (replicate n v) ≡ n
length-replicate zero v = refl
length-replicate (suc n) v = ap (λ k. suc k) (length-replicate n v)

pub follows_start : (emitter : Emitter) (items : List Item) → ((n : Spelling) → number_in emitter.names n ≡ None) → emitter.code.items ≡ [] → Follows emitter items items
follows_start emitter items none empty = record {
  body = [];
  unbuilt = ap (λ (known : Spelling → Bool). unbuilt_from known items) (λ i n. sym (ap is_some (none n)) i);
  stands = refl;
  valid = valid_none (number_in emitter.names) emitter.names.count none;
  reaches = λ here fixed many enough. record {
    state = start;
    globals = replicate many value.Unset;
    size = length-replicate many value.Unset;
    agree = λ n k e. absurd (some_none k (number_in emitter.names n) (none n) e);
    means = λ more. refl;
    runs = λ rest. ap (λ c. run_from text_table (c ++ rest) (machine.start many)) empty;
  };
}

-- ---- one more item

leads_more : (here : Setting) (fixed : List Spelling) (old new : Emitter) (st : Stmt) (body : List Stmt) (many : ℕ) → Leads here fixed (number_in old.names) old.code.items body many → EmitsStmt st old new → new.names.count ≤ many → Leads here fixed (number_in new.names) new.code.items (body ++ st ∷ []) many
leads_more here fixed old new st body many l e enough =
    let room : new.names.count ≤ length l.globals = omega (arith, enough, l.size) in
    let p = e.performs here fixed l.state l.globals room l.agree in
    record {
      state = p.0;
      globals = p.1;
      size = p.3 ∙ l.size;
      agree = p.4;
      means = λ more.
          ap (λ b. statements here [] (of_module fixed) b start) (append_assoc body (st ∷ []) more)
          ∙ l.means (st ∷ more)
          ∙ bind_gives (stmt here [] st (of_module fixed)) (λ flow. then_next flow (statements here [] (of_module fixed) more)) l.state p.0 Next p.2;
      runs = λ rest.
          ap (λ c. run_from text_table (c ++ rest) (machine.start many)) e.written
          ∙ ap (λ c. run_from text_table c (machine.start many)) (append_assoc old.code.items e.code rest)
          ∙ l.runs (e.code ++ rest)
          ∙ p.5 rest;
    }

first_of_one : (o : Option Span) → first_of (o ∷ []) ≡ o
first_of_one None = refl
first_of_one (Some at) = refl

pub follows_more : (old new : Emitter) (items rest : List Item) (i : Item) → Follows old items (i ∷ rest) → EmitsItem i old new → Follows new items rest
follows_more old new items rest (item.Stmt st) f e = record {
  body = f.body ++ st ∷ [];
  unbuilt =
      f.unbuilt
      ∙ (λ j. first_of (e.built j ∷ unbuilt_from (known_after (is_numbered (number_in old.names)) (item.Stmt st)) rest ∷ []))
      ∙ first_of_one (unbuilt_from (known_after (is_numbered (number_in old.names)) (item.Stmt st)) rest)
      ∙ ap (λ (known : Spelling → Bool). unbuilt_from known rest) (λ j n. sym (e.known n) j);
  stands = f.stands ∙ sym (append_assoc f.body (st ∷ []) (flat_map statement_in rest));
  valid = e.valid;
  reaches = λ here fixed many enough.
      let before : old.names.count ≤ many = omega (arith, enough, e.more) in
      leads_more here fixed old new st f.body many (f.reaches here fixed many before) e enough;
}
follows_more old new items rest (item.Function g) f e = absurd e
follows_more old new items rest (item.Class c) f e = absurd e

-- ---- the whole

outcome_is : (m : Module) (fuel : ℕ) → outcome m fuel fuel OutOfFuel ≡ statements (setting_of m fuel OutOfFuel fuel) [] (module_scope m) (statements_of m) start
unfolding outcome run
outcome_is m fuel = refl

means_all : (m : Module) (emitter : Emitter) (f : Follows emitter m.items []) (whole : emitter.names.count ≤ emitter.names.count) (fuel : ℕ) → outcome m fuel fuel OutOfFuel ≡ Gives Next (f.reaches (setting_of m fuel OutOfFuel fuel) (assigned_outside (statements_of m)) emitter.names.count whole).state
unfolding pure
means_all m emitter f whole fuel =
    outcome_is m fuel
    ∙ ap (λ body. statements (setting_of m fuel OutOfFuel fuel) [] (module_scope m) body start) f.stands
    ∙ (f.reaches (setting_of m fuel OutOfFuel fuel) (assigned_outside (statements_of m)) emitter.names.count whole).means []

same_out : (a b : List ℕ) → Done a ≡ Done b → a ≡ b
same_out a b e = cc

pub module_compiled : (m : Module) (code : Code) (emitter : Emitter) → Follows emitter m.items [] → code.texts ≡ text_table → code.globals ≡ emitter.names.count → IsEntry code.functions (emitter.code.items ++ end_code) → Compiles m code
module_compiled m code emitter f texts globals entry =
    let whole : emitter.names.count ≤ emitter.names.count = omega arith in
    let at : (fuel : ℕ) → Leads (setting_of m fuel OutOfFuel fuel) (assigned_outside (statements_of m)) (number_in emitter.names) emitter.code.items f.body emitter.names.count = λ fuel. f.reaches (setting_of m fuel OutOfFuel fuel) (assigned_outside (statements_of m)) emitter.names.count whole in
    let runs : run_of code ≡ run_from text_table (emitter.code.items ++ end_code) (machine.start emitter.names.count) =
    ap (λ x. run_from x (entry_code code.functions) (machine.start code.globals)) texts
    ∙ ap (λ x. run_from text_table x (machine.start code.globals)) entry
    ∙ ap (λ x. run_from text_table (emitter.code.items ++ end_code) (machine.start x)) globals in
    let means : (fuel : ℕ) → meaning m fuel ≡ meaning_of (Gives Next (at fuel).state) = λ fuel. ap meaning_of (means_all m emitter f whole fuel) in
    let same : (fuel : ℕ) → (at fuel).state.shared.out ≡ (at 0).state.shared.out = λ fuel. same_out _ _ (sym ((at fuel).runs end_code) ∙ (at 0).runs end_code) in
    record {
      built = f.unbuilt;
      bytes = (at 0).state.shared.out;
      runs = runs ∙ (at 0).runs end_code;
      prints = λ fuel. ap (λ w. w.bytes) (means fuel) ∙ same fuel;
      ends = λ fuel. ap (λ w. w.ending) (means fuel);
    }

-- ---- the loop

next_item : (items : List Item) (index : ℕ) (i : Item) → index < length items → i ≡ get_or items index i → drop index items ≡ i ∷ drop (index + 1) items
next_item items index i small is =
    let next : suc index ≡ index + 1 = omega arith in
    drop-cons items index i small ∙ ap (λ x. x ∷ drop (suc index) items) (sym is) ∙ ap (λ k. i ∷ drop k items) next

pub step_follows : (old new : Emitter) (items : List Item) (index : ℕ) (i : Item) → index < length items → i ≡ get_or items index i → Follows old items (drop index items) → EmitsItem i old new → Follows new items (drop (index + 1) items)
step_follows old new items index i small is f e =
    follows_more old new items (drop (index + 1) items) i (subst (λ rest. Follows old items rest) (next_item items index i small is) f) e

no_more : (items : List Item) (index : ℕ) → length items ≤ index → drop index items ≡ []
no_more items index h = grind (arith, common_steps)

pub end_follows : (emitter : Emitter) (items : List Item) (index : ℕ) → length items ≤ index → Follows emitter items (drop index items) → Follows emitter items []
end_follows emitter items index h f = subst (λ rest. Follows emitter items rest) (no_more items index h) f
