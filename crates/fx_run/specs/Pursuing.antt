-- A task followed over what is known, as one rule: it answers the task's end, with the own changes that there are then.
use Rattle.fx_store.specs.Rule.{Ask, Answer, Look, Tick, seen}
use Rattle.fx_spec.specs.Task.{Task, Ends, Looks, Sets}
use Rattle.fx_view.specs.OwnList.{OwnList}
use Rattle.fx_view.specs.Own.{own_at, put_all}

-- a task's end, and the own changes there
pub record Came (A : Type 0) : Type 0 where
  pub end : A
  pub own : OwnList

abbrev pub came : {A : Type 0} → A → OwnList → Came A
came a own = record { end = a; own = own }

-- the rule, which sees the own changes on top of what it looks at, with no evaluations
abbrev pub topped : {A : Type 0} → OwnList → Ask A → Ask A
topped own (Answer a) = Answer a
topped own (Look p next) = Look p λ n. topped own (next (seen (own_at own p) n))
topped own (Tick rule) = topped own rule

-- the task from some own changes on, each of its sets added to them
abbrev pub pursuit : {A : Type 0} → OwnList → Task A → Ask (Came A)
pursuit own (Ends a) = Answer (came a own)
pursuit own (Looks p next) = Look p λ n. pursuit own (next (seen (own_at own p) n))
pursuit own (Sets changes next) = pursuit (put_all own changes) next
