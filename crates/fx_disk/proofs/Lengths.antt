-- How many entries a listing has while it grows.
use Rattle.std.proofs.Common.{◌≡◌, ℕ, ◌+◌, ◌≤◌, Bool, true, false, cond, List, arith}
use Rattle.std.specs.FinMap.{contains_key, empty, insert, len, len-insert, len-empty}
use Rattle.std.specs.Cmp.Lexicographic.{nat_list_cmp_total}
use Rattle.fx_outside.specs.declared.kind.HostKind.{HostKind}
use Rattle.fx_outside.specs.Listing.{Names}

cond_le : (b : Bool) (n : ℕ) → cond b n (n + 1) ≤ n + 1
cond_le true n = omega arith
cond_le false n = omega arith

len-insert_le : (names : Names) (name : List ℕ) (kind : HostKind) → len (insert names name kind) ≤ len names + 1
len-insert_le names name kind = rw (len-insert nat_list_cmp_total names name kind) (cond_le (contains_key names name) (len names))

-- one more name, of those that were left
pub fewer_left : (before after : Names) (name : List ℕ) (kind : HostKind) (left left' most : ℕ) → after ≡ insert before name kind → left' + 1 ≡ left → len before + left ≤ most → len after + left' ≤ most
fewer_left before after name kind left left' most e s h = let p = len-insert_le before name kind in rw e (omega (arith, p, s, h))

-- no name yet
pub all_left : (names : Names) (left there most : ℕ) → names ≡ empty → left ≡ there → there ≡ most → len names + left ≤ most
all_left names left there most e l t = rw e (omega (arith, l, t, len-empty))
