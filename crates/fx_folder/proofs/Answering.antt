-- A folder is loaded or refused as its definition says.
use Rattle.fx_folder.proofs.Prelude.{◌≡◌, ◌⊎◌, inl, inr, ℕ, Bool, true, false, List, Option, Some, None, IfSome, IfOk, IfErr, Result, Ok, Err, refl, Filestore, HostView, FaultIn, HasFailed, Tree, is_folder_at, FolderCause, LoadFault, Refused, ReadFault, NoMemory, loads, Loads, IsRefused, LoadCause, AnswersAs}

no_fault : {A : Type 0} (s : A) → (◌≡◌ {A = Result A LoadFault} (Ok s) (Err ReadFault)) ⊎ (◌≡◌ {A = Result A LoadFault} (Ok s) (Err NoMemory)) → ⊥
no_fault s (inl e) = cc
no_fault s (inr e) = cc

no_refusal : {A : Type 0} (cause : FolderCause) → (◌≡◌ {A = Result A LoadFault} (Err (Refused cause)) (Err ReadFault)) ⊎ (◌≡◌ {A = Result A LoadFault} (Err (Refused cause)) (Err NoMemory)) → ⊥
no_refusal cause (inl e) = cc
no_refusal cause (inr e) = cc

-- a folder that is missing has no such answer
is_there : {A : Type 0} (b : Bool) (r : Result A LoadFault) → (b ≡ false → (r ≡ Err ReadFault) ⊎ (r ≡ Err NoMemory)) → ((r ≡ Err ReadFault) ⊎ (r ≡ Err NoMemory) → ⊥) → b ≡ true
is_there true r missing never = refl
is_there false r missing never = absurd (never (missing refl))

pub is_loaded : (told : Option Tree) (path : List ℕ) (result : Result Filestore LoadFault) → IfSome told (λ tree. is_folder_at tree path ≡ true → AnswersAs (loads tree path) result) → IfSome told (λ tree. is_folder_at tree path ≡ false → (result ≡ Err ReadFault) ⊎ (result ≡ Err NoMemory)) → IfOk result (λ s. IfSome told (λ tree. Loads tree path s.nodes))
is_loaded None path (Ok s) answer missing = tt
is_loaded (Some tree) path (Ok s) answer missing = let here = is_there (is_folder_at tree path) (Ok s) missing (no_fault s) in (here, answer here)
is_loaded told path (Err e) answer missing = tt

if_refused : (told : Option Tree) (path : List ℕ) (cause : FolderCause) → IfSome told (λ tree. is_folder_at tree path ≡ true → AnswersAs (loads tree path) (Err (Refused cause))) → IfSome told (λ tree. is_folder_at tree path ≡ false → (◌≡◌ {A = Result Filestore LoadFault} (Err (Refused cause)) (Err ReadFault)) ⊎ (◌≡◌ {A = Result Filestore LoadFault} (Err (Refused cause)) (Err NoMemory))) → IfSome told (λ tree. IsRefused tree path cause)
if_refused None path cause answer missing = tt
if_refused (Some tree) path cause answer missing = let here = is_there {A = Filestore} (is_folder_at tree path) (Err (Refused cause)) missing (no_refusal cause) in (here, answer here)

pub is_not_loaded : (old new : HostView) (path : List ℕ) (result : Result Filestore LoadFault) → IfSome old.told (λ tree. is_folder_at tree path ≡ true → AnswersAs (loads tree path) result) → IfSome old.told (λ tree. is_folder_at tree path ≡ false → (result ≡ Err ReadFault) ⊎ (result ≡ Err NoMemory)) → (result ≡ Err ReadFault → HasFailed (FaultIn path) (λ tree. is_folder_at tree path) old new) → IfErr result (LoadCause path old new)
is_not_loaded old new path (Ok s) answer missing fault = tt
is_not_loaded old new path (Err (Refused cause)) answer missing fault = if_refused old.told path cause answer missing
is_not_loaded old new path (Err ReadFault) answer missing fault = fault refl
is_not_loaded old new path (Err NoMemory) answer missing fault = tt
