-- Calls on a host, one after another.
use Rattle.std.proofs.Common.{◌≡◌, inl, inr, ℕ, ◌≤◌, Bool, true, false, List, ◌∷◌, ◌++◌, Option, Some, None, IsSomeAnd, refl, sym, ◌∙◌, subst, arith, append_assoc}
use Rattle.fx_base.specs.Causes.{Rose}
use Rattle.fx_outside.specs.Host.{HostView, ReadsOnly, Guard, LetsIn, AsksAt, WritesIn, FaultAt, IsIn, FaultIn, HasFailed}
use Rattle.fx_outside.specs.Tree.{Tree}

pub reads_none : (a : HostView) → ReadsOnly a a
reads_none a = record { same = refl; later = omega arith }

pub reads_then : (a b c : HostView) → ReadsOnly a b → ReadsOnly b c → ReadsOnly a c
reads_then a b c first then = record { same = then.same ∙ first.same; later = omega (arith, first.later, then.later) }

-- what fences let through they let through later, if they stayed and nothing was asked outside of them
lets_on : (Lets : Guard → Type 0) (a b : HostView) → b.guard ≡ a.guard → Lets a.guard → Lets b.guard
lets_on Lets a b same lets = subst Lets (sym same) lets

-- two stages, each of which asks nothing but what fences of some kind let through
pub asks_both : (Lets : Guard → Type 0) (a b c : HostView) → (Lets a.guard → b.guard ≡ a.guard) → (Lets b.guard → c.guard ≡ b.guard) → Lets a.guard → c.guard ≡ a.guard
asks_both Lets a b c first then lets = then (lets_on Lets a b (first lets) lets) ∙ first lets

pub at_then : (path : List ℕ) (a b c : HostView) → AsksAt path a b → AsksAt path b c → AsksAt path a c
at_then path = asks_both (λ guard. guard.may_read path ≡ true)

pub writes_then : (path : List ℕ) (a b c : HostView) → WritesIn path a b → WritesIn path b c → WritesIn path a c
writes_then path = asks_both (λ guard. LetsIn guard.may_write path)

pub rose_back : (a b c : HostView) → a.faults ≤ b.faults → Rose b.faults c.faults → Rose a.faults c.faults
rose_back a b c later rose = omega (arith, later, rose)

-- a fault after other calls is one from before them on
pub fault_back : (path : List ℕ) (a b c : HostView) → a.faults ≤ b.faults → FaultAt path b c → FaultAt path a c
fault_back path a b c later fault = record { rose = rose_back a b c later fault.rose; place = fault.place }

pub fault_in_back : (folder : List ℕ) (a b c : HostView) → a.faults ≤ b.faults → FaultIn folder b c → FaultIn folder a c
fault_in_back folder a b c later fault = record { rose = rose_back a b c later fault.rose; place = fault.place }

-- a failure after reads alone is one from before them on
pub failed_back : (Fault : HostView → HostView → Type 0) (suits : Tree → Bool) (a b c : HostView) → ReadsOnly a b → (Fault b c → Fault a c) → HasFailed Fault suits b c → HasFailed Fault suits a c
failed_back Fault suits a b c reads back (inl fault) = inl (back fault)
failed_back Fault suits a b c reads back (inr unsuited) = inr (subst (λ o. IsSomeAnd o (λ tree. suits tree ≡ false)) reads.same unsuited)

pub failed_at_back : (path : List ℕ) (suits : Tree → Bool) (a b c : HostView) → ReadsOnly a b → HasFailed (FaultAt path) suits b c → HasFailed (FaultAt path) suits a c
failed_at_back path suits a b c reads failed = failed_back (FaultAt path) suits a b c reads (fault_back path a b c reads.later) failed

pub failed_in_back : (folder : List ℕ) (suits : Tree → Bool) (a b c : HostView) → ReadsOnly a b → HasFailed (FaultIn folder) suits b c → HasFailed (FaultIn folder) suits a c
failed_in_back folder suits a b c reads failed = failed_back (FaultIn folder) suits a b c reads (fault_in_back folder a b c reads.later) failed

-- ---- what stands in a folder

pub in_below : (folder below : List ℕ) → IsIn folder (folder ++ 47 ∷ below)
in_below folder below = inr (below, refl)

-- what stands in a folder of a folder stands in the outer one
pub in_in : (folder below path : List ℕ) → IsIn (folder ++ 47 ∷ below) path → IsIn folder path
in_in folder below path (inl is) = inr (below, is)
in_in folder below path (inr (more, is)) = inr (below ++ 47 ∷ more, is ∙ append_assoc folder (47 ∷ below) (47 ∷ more))

some_and : {A : Type 0} (P Q : A → Type 0) (o : Option A) → ((x : A) → P x → Q x) → IsSomeAnd o P → IsSomeAnd o Q
some_and P Q None map h = h
some_and P Q (Some x) map h = map x h

-- a fault at a path of a folder is one in the folder
pub fault_in : (folder path : List ℕ) (a b : HostView) → IsIn folder path → FaultAt path a b → FaultIn folder a b
fault_in folder path a b is fault = record { rose = fault.rose; place = subst (λ o. IsSomeAnd o (IsIn folder)) (sym fault.place) is }

-- a fault in a folder of a folder is one in the outer one
pub fault_in_outer : (folder below : List ℕ) (a b : HostView) → FaultIn (folder ++ 47 ∷ below) a b → FaultIn folder a b
fault_in_outer folder below a b fault = record { rose = fault.rose; place = some_and (IsIn (folder ++ 47 ∷ below)) (IsIn folder) b.last_fault (λ path is. in_in folder below path is) fault.place }
