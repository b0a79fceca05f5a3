-- What a transaction does when it runs whole: its commands one after another, each over the filestore that the ones before
-- have left, with a position in the description and with its own variables.
use Rattle.std.specs.Prelude.{ℕ, ◌+◌, pos, Bool, true, false, cond, List, [], ◌∷◌, ◌++◌, take, length, Ok, Err}
use Rattle.std.specs.FinMap.{get}
use Rattle.std.specs.Option.{unwrap_or}
use Rattle.fx_store.specs.declared.changes.Change.{Change}
use Rattle.fx_store.specs.Rule.{Ask, Answer, ◌>>=◌}
use Rattle.fx_store.specs.Whole.{Store, Nodes, over_nodes}
use Rattle.fx_expr.specs.Bindings.{bind, assigned}
use Rattle.fx_expr.specs.Eval.{eval_of, text_in, names_in, truth_in}
use Rattle.fx_expr.specs.Tree.{Tree}
use Rattle.fx_spec.specs.declared.refusal.End.{End}
use Rattle.fx_spec.specs.Refusals.{refusal_number}
use Rattle.fx_spec.specs.SpecTree.{SpecTree}
use Rattle.fx_spec.specs.CommandTree.{ActTree, CommandTree, Block, block, count, count_block}
use Rattle.fx_spec.specs.Describe.{Bindings}
use Rattle.fx_spec.specs.Place.{Address}
use Rattle.fx_spec.specs.Move.{Answered, unrefused, evaluated, at_place, go_into, go_to, go_down, go_next, go_prev, go_out, go_up, fetch_at, whole_at, validate_at}
use Rattle.fx_spec.specs.Edit.{store_at, create_at, remove_at}
use Rattle.fx_spec.specs.Task.{Task, Ends, Sets, result, after, consulted, written, asking, ◌>=>◌, once}

-- what an act comes to: a move has a new address, an edit its changes
pub data Effect : Type 0 where
  Moves : Address → Effect
  Changes : List Change → Effect

abbrev pub moves : Answered Address → Answered Effect
moves (Ok a) = Ok (Moves a)
moves (Err f) = Err f

abbrev pub edits : Answered (List Change) → Answered Effect
edits (Ok changes) = Ok (Changes changes)
edits (Err f) = Err f

abbrev pub moving : Ask (Answered Address) → Ask (Answered Effect)
moving rule = rule >>= λ a. Answer (moves a)

abbrev pub editing : Ask (Answered (List Change)) → Ask (Answered Effect)
editing rule = rule >>= λ changes. Answer (edits changes)

-- a move that goes on from the place
abbrev pub from_place : SpecTree → Address → (Address → List (List ℕ) → Bindings → SpecTree → Ask (Answered Address)) → Ask (Answered Address)
from_place root a move = at_place root a λ at. move a at.path at.env at.spec

-- a move or an edit from an address, with the variables that its own expression sees
abbrev pub effect : SpecTree → Address → Bindings → ActTree → Ask (Answered Effect)
effect root a vars ActTree.into = moving (from_place root a go_into)
effect root a vars (ActTree.to e) = moving (unrefused (λ t. from_place root a (go_to (text_in t))) (evaluated (eval_of vars e)))
effect root a vars ActTree.next = moving (go_next root a)
effect root a vars ActTree.prev = moving (go_prev root a)
effect root a vars ActTree.out = moving (Answer (go_out a))
effect root a vars ActTree.down = moving (from_place root a go_down)
effect root a vars ActTree.up = moving (Answer (go_up a))
effect root a vars ActTree.top = moving (Answer (Ok []))
effect root a vars (ActTree.store e) = editing (unrefused (λ v. at_place root a (store_at v)) (evaluated (eval_of vars e)))
effect root a vars ActTree.create = editing (at_place root a create_at)
effect root a vars ActTree.remove = editing (at_place root a remove_at)

-- where a transaction stands between two commands
pub record Standing : Type 0 where
  pub vars : Bindings
  pub address : Address
  pub outputs : List Tree

-- what a command comes to: the transaction goes on, or has ended with these outputs
pub data Flow : Type 0 where
  On : Standing → Flow
  Over : End → List Tree → Flow

abbrev pub go_on : (Standing → Task Flow) → Flow → Task Flow
go_on next (On s) = next s
go_on next (Over end outputs) = Ends (Over end outputs)

-- the standing with one more variable, and with a new value of the newest one of that name
abbrev pub binding : Standing → List ℕ → Tree → Standing
binding s x v = record s { vars = bind s.vars x v }

abbrev pub assigning : Standing → List ℕ → Tree → Standing
assigning s x v = record s { vars = unwrap_or (assigned x v s.vars) s.vars }

-- a command's answer, or the stop at its refusal
abbrev pub or_stop : {A : Type 0} → ℕ → Standing → (A → Task Flow) → Answered A → Task Flow
or_stop i s next (Ok a) = next a
or_stop i s next (Err f) = Ends (Over (End.Stopped i f) s.outputs)

-- an effect takes place
abbrev pub taking : Standing → Effect → Task Flow
taking s (Moves a) = Ends (On (record s { address = a }))
taking s (Changes changes) = Sets changes (Ends (On s))

-- a `try` binds 0, or the number of the refusal
abbrev pub tried : Standing → List ℕ → Answered Effect → Task Flow
tried s x (Ok e) = taking (binding s x (Tree.int (pos 0))) e
tried s x (Err f) = Ends (On (binding s x (Tree.int (pos (refusal_number f)))))

-- the variables of a block end with it
abbrev pub leaving : Standing → Flow → Flow
leaving s (On t) = On (record t { vars = take (length s.vars) t.vars })
leaving s (Over end outputs) = Over end outputs

abbrev pub within : Standing → Task Flow → Task Flow
within s body = body >=> λ f. Ends (leaving s f)

-- the block once for each text, in order, with the text bound
abbrev pub each_in : (Standing → Task Flow) → List ℕ → List (List ℕ) → Standing → Task Flow
each_in body x [] s = Ends (On s)
each_in body x (t ∷ ts) s = within s (body (binding s x (Tree.str t))) >=> go_on (λ s. each_in body x ts s)

-- a command and a block from a standing, each by its number in the order of the text
abbrev mutual
  pub run : SpecTree → ℕ → CommandTree → Standing → Task Flow
  run root i (CommandTree.act a) s = asking (effect root s.address s.vars a) (or_stop i s (taking s))
  run root i (CommandTree.attempt x a) s = asking (effect root s.address s.vars a) (tried s x)
  run root i (CommandTree.bind x e) s = or_stop i s (λ v. Ends (On (binding s x v))) (evaluated (eval_of s.vars e))
  run root i (CommandTree.assign x e) s = or_stop i s (λ v. Ends (On (assigning s x v))) (evaluated (eval_of s.vars e))
  run root i (CommandTree.fetch x shape) s = asking (at_place root s.address (fetch_at shape)) (or_stop i s (λ v. Ends (On (binding s x v))))
  run root i (CommandTree.whole x shape) s = asking (at_place root s.address (whole_at shape)) (or_stop i s (λ v. Ends (On (binding s x v))))
  run root i (CommandTree.validate x) s = asking (at_place root s.address validate_at) (or_stop i s (λ v. Ends (On (binding s x v))))
  run root i (CommandTree.print e) s = or_stop i s (λ v. Ends (On (record s { outputs = s.outputs ++ v ∷ [] }))) (evaluated (eval_of s.vars e))
  run root i (CommandTree.branch e a b) s =
      or_stop i s (λ v. within s (cond (truth_in v) (run_block root (1 + i) a s) (run_block root (1 + (i + count_block a)) b s))) (evaluated (eval_of s.vars e))
  run root i (CommandTree.each x e a) s = or_stop i s (λ v. each_in (λ s. run_block root (1 + i) a s) x (names_in v) s) (evaluated (eval_of s.vars e))
  run root i CommandTree.abort s = Ends (Over End.Aborted s.outputs)

  pub run_block : SpecTree → ℕ → Block → Standing → Task Flow
  run_block root i Block.none s = Ends (On s)
  run_block root i (Block.then c cs) s = run root i c s >=> go_on (λ s. run_block root (i + count c) cs s)

-- a transaction from its start
unfoldable pub transaction : SpecTree → List CommandTree → Task Flow
transaction root commands = run_block root 0 (block commands) (record { vars = []; address = []; outputs = [] })

abbrev pub flow_end : Flow → End
flow_end (On s) = End.Done
flow_end (Over end outputs) = end

abbrev pub flow_outputs : Flow → List Tree
flow_outputs (On s) = s.outputs
flow_outputs (Over end outputs) = outputs

abbrev pub is_done : End → Bool
is_done End.Done = true
is_done _ = false

-- the outputs and the end of a transaction on a filestore
abbrev pub outputs : SpecTree → List CommandTree → Store → List Tree
outputs root t S = flow_outputs (result S (transaction root t))

abbrev pub end : SpecTree → List CommandTree → Store → End
end root t S = flow_end (result S (transaction root t))

-- the paths that it consults, each once, in order
abbrev pub way : SpecTree → List CommandTree → Store → List (List (List ℕ))
way root t S = once (consulted S (transaction root t))

-- the filestore that it leaves: that after its commands if it is done, and else the one before
abbrev pub left : SpecTree → List CommandTree → Store → Store
left root t S = cond (is_done (end root t S)) (after S (transaction root t)) S

-- the same of filestores as data: the changes that it keeps, and the filestore with them
abbrev pub kept : SpecTree → List CommandTree → Store → List Change
kept root t S = cond (is_done (end root t S)) (written S (transaction root t)) []

abbrev pub left_nodes : SpecTree → List CommandTree → Nodes → Nodes
left_nodes root t nodes = over_nodes nodes (kept root t (get nodes))
