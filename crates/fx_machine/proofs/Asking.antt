-- How rules that ask paths alone are put together.
use Rattle.std.specs.Prelude.{All}
use Rattle.fx_store.specs.declared.node.Landing.{Landing}
use Rattle.fx_store.specs.declared.node.Landing.TheVariants.{At, Absent, Blocked, TooManyLinks}
use Rattle.fx_store.specs.Names.{IsName, IsPath}
use Rattle.fx_store.specs.Rule.{Ask, Answer, Look, Tick, ◌>>=◌}
use Rattle.fx_spec.specs.Task.{Task, Ends, Looks, Sets, asking, ◌>=>◌}
use Rattle.fx_machine.specs.Asks.{AsksPaths, TaskAsksPaths}

-- a rule, and then the one that goes on with its answer
pub asks_then : {A B : Type 0} (P : A → Type 0) (Q : B → Type 0) (rule : Ask A) (f : A → Ask B) → AsksPaths P rule → ((a : A) → P a → AsksPaths Q (f a)) → AsksPaths Q (rule >>= f)
asks_then P Q (Answer a) f is next = next a is
asks_then P Q (Look p rule) f is next = (is.0, λ found may. asks_then P Q (rule found) f (is.1 found may) next)
asks_then P Q (Tick rule) f is next = asks_then P Q rule f is next

-- a rule, and then the task that goes on with its answer
pub asking_then : {A B : Type 0} (P : A → Type 0) (Q : B → Type 0) (rule : Ask A) (f : A → Task B) → AsksPaths P rule → ((a : A) → P a → TaskAsksPaths Q (f a)) → TaskAsksPaths Q (asking rule f)
asking_then P Q (Answer a) f is next = next a is
asking_then P Q (Look p rule) f is next = (is.0, λ found may. asking_then P Q (rule found) f (is.1 found may) next)
asking_then P Q (Tick rule) f is next = asking_then P Q rule f is next

-- one task, and then the one that goes on with its end
pub task_then : {A B : Type 0} (P : A → Type 0) (Q : B → Type 0) (task : Task A) (f : A → Task B) → TaskAsksPaths P task → ((a : A) → P a → TaskAsksPaths Q (f a)) → TaskAsksPaths Q (task >=> f)
task_then P Q (Ends a) f is next = next a is
task_then P Q (Looks p task) f is next = (is.0, λ found may. task_then P Q (task found) f (is.1 found may) next)
task_then P Q (Sets changes task) f is next = (is.0, task_then P Q task f is.1 next)

-- where a path lands, as the rules of landing have it: at a path, or at the missing names below one
abbrev pub IsLanding : Landing → Type 0
IsLanding (At q) = IsPath q
IsLanding (Absent here names) = IsPath here × All IsName names
IsLanding (Blocked q) = Unit {0}
IsLanding TooManyLinks = Unit {0}
