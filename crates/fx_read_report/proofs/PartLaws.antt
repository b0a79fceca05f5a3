-- The parts of a line are read as they are spelled.
use Rattle.std.proofs.Common.{◌≡◌, ℕ, ◌^◌, ◌<◌, cond, nat_lt, List, [], ◌∷◌, ◌++◌, All, Some, None, codes, refl, sym, ap, subst, ◌∙◌, append_assoc, append-nil, arith, lit<}
use Rattle.std.specs.Fmt.{decimal}
use Rattle.std.specs.Option.{option_map, option_and_then}
use Rattle.std.proofs.lemmas.Bool.{lt-ltb}
use Rattle.std.proofs.lemmas.List.Elements.{All-head, All-tail}
use Rattle.fx_expr.specs.declared.fault.ExprFault.TheVariants as fault
use Rattle.fx_store.specs.Names.{IsPath, path_text}
use Rattle.fx_store.proofs.PathLists.{path_bytes, read_path_text}
use Rattle.fx_spec.specs.Refusals.{refusal_number}
use Rattle.fx_spec.specs.declared.refusal.Refusal.{Refusal}
use Rattle.fx_spec.specs.declared.refusal.Refusal.TheVariants as refusal
use Rattle.fx_spec.specs.declared.refusal.End.{End}
use Rattle.fx_spec.specs.declared.refusal.End.TheVariants as end
use Rattle.fx_report.specs.Print.{quote}
use Rattle.fx_report.specs.Readable.{AreBytes}
use Rattle.fx_report.specs.Report.{end_text, field, refusal_text}
use Rattle.fx_read_report.specs.Numbers.{EndsDigits, after, leading_number}
use Rattle.fx_read_report.specs.Quotes.{unquoted}
use Rattle.fx_read_report.proofs.Digits.{after_read, leading_read}
use Rattle.fx_read_report.proofs.Scans.{quote_read}
use Rattle.fx_read_report.specs.Form.{IsFormEnd, IsFormRefusal}
use Rattle.fx_read_report.specs.Limits.{Limits, path_or_none, strict}
use Rattle.fx_read_report.specs.Values.{alone}
use Rattle.fx_read_report.specs.Reads.{blocked_at, end_at, fault_at, field_at, last_at, path_at, refusal_at, small_at, stop_at}

-- ---- numbers behind words

pub field_read : (words : List ℕ) (n : ℕ) (x : List ℕ) → n < 2 ^ 64 → EndsDigits x → field_at words (field words n ++ x) ≡ Some (n, x)
unfolding field_at field
field_read words n x small s =
    ap (λ t. option_and_then leading_number (after words t)) (append_assoc words (decimal n) x)
    ∙ (ap (λ o. option_and_then leading_number o) (after_read words (decimal n ++ x)) ∙ leading_read n x small s)

pub small_read : (words : List ℕ) (n : ℕ) (x : List ℕ) → n < 2 ^ 32 → EndsDigits x → small_at words (field words n ++ x) ≡ Some (n, x)
unfolding small_at
small_read words n x small s =
    ap (λ o. option_and_then (λ r. cond (nat_lt r.0 (2 ^ 32)) (Some r) None) o) (field_read words n x (omega arith) s)
    ∙ ap (λ b. cond b (Some (n, x)) None) (lt-ltb n (2 ^ 32) small)

pub last_read : (words : List ℕ) (n : ℕ) → n < 2 ^ 64 → last_at words (field words n) ≡ Some n
unfolding last_at
last_read words n small = ap (λ t. alone (field_at words t)) (sym (append-nil (field words n))) ∙ ap alone (field_read words n [] small tt)

-- ---- paths

are_bytes : (x : List ℕ) → All (λ b. b < 256) x → AreBytes x
are_bytes [] p = tt
are_bytes (b ∷ x) p = (All-head (λ b. b < 256) b x p, are_bytes x (All-tail (λ b. b < 256) b x p))

-- a path that a reader takes
pub record IsPathIn (limits : Limits) (path : List (List ℕ)) : Type 0 where
  pub bytes : AreBytes (path_text path)
  pub taken : limits.path_of (path_text path) ≡ Some path

pub strict_path : (p : List (List ℕ)) → IsPath p → IsPathIn strict p
strict_path p is = record { bytes = are_bytes (path_text p) (path_bytes p is.names); taken = ap path_or_none (read_path_text p is) }

pub path_read : (m : Limits) (p : List (List ℕ)) → IsPathIn m p → path_at m (quote (path_text p)) ≡ Some p
unfolding path_at
path_read m p is =
    ap (λ t. option_and_then m.path_of (alone (unquoted t))) (sym (append-nil (quote (path_text p))))
    ∙ (ap (λ o. option_and_then m.path_of (alone o)) (quote_read (path_text p) [] is.bytes) ∙ is.taken)

-- ---- refusals

blocked_read : (m : Limits) (p : List (List ℕ)) → IsPathIn m p → blocked_at m (codes "Blocked " ++ quote (path_text p)) ≡ Some (refusal.Blocked p)
unfolding blocked_at
blocked_read m p is =
    ap (λ o. option_map refusal.Blocked (option_and_then (path_at m) o)) (after_read (codes "Blocked ") (quote (path_text p)))
    ∙ ap (λ o. option_map refusal.Blocked o) (path_read m p is)

-- the path of a refusal is one that a reader takes
abbrev pub IsRefusalIn : Limits → Refusal → Type 0
IsRefusalIn m r = (p : List (List ℕ)) → r ≡ refusal.Blocked p → IsPathIn m p

abbrev pub IsEndIn : Limits → End → Type 0
IsEndIn m end.Done = Unit {0}
IsEndIn m (end.Stopped c r) = (c < 2 ^ 32) × IsRefusalIn m r
IsEndIn m end.Aborted = Unit {0}

pub strict_end : (e : End) → IsFormEnd e → IsEndIn strict e
strict_end end.Done p = tt
strict_end (end.Stopped c r) p = (p.0, λ path e. strict_path path (subst IsFormRefusal e p.1))
strict_end end.Aborted p = tt

refusal_read : (m : Limits) (r : Refusal) → IsRefusalIn m r → refusal_at m (refusal_number r) (refusal_text r) ≡ Some r
unfolding refusal_at fault_at
refusal_read m (refusal.Blocked path) p = blocked_read m path (p path refl)
refusal_read m (refusal.Expr fault.TooLong) p = refl
refusal_read m (refusal.Expr fault.Overflow) p = refl
refusal_read m (refusal.Expr fault.NotNumber) p = refl
refusal_read m r p = refl

-- ---- ends

number_small : (r : Refusal) → refusal_number r < 2 ^ 64
number_small (refusal.Expr f) = lit< tt
number_small r = lit< tt

stop_form : (a b r : List ℕ) → ((a ++ b) ++ codes " ") ++ r ≡ a ++ (b ++ (codes " " ++ r))
stop_form a b r = simp append_assoc

space_ends : (n : ℕ) (x : List ℕ) → EndsDigits (field (codes " ") n ++ x)
unfolding field
space_ends n x = refl

stop_read : (m : Limits) (c : ℕ) (r : Refusal) → c < 2 ^ 32 → IsRefusalIn m r → stop_at m (end_text (end.Stopped c r)) ≡ Some (end.Stopped c r)
unfolding stop_at
stop_read m c r small is =
    let name = codes " " ++ refusal_text r in
    let n = refusal_number r in
    rw (
      stop_form (field (codes "stopped ") c) (field (codes " ") n) (refusal_text r),
      small_read (codes "stopped ") c (field (codes " ") n ++ name) small (space_ends n name),
      field_read (codes " ") n name (number_small r) refl,
      after_read (codes " ") (refusal_text r),
      refusal_read m r is,
    ) refl

pub end_read : (m : Limits) (e : End) → IsEndIn m e → end_at m (end_text e) ≡ Some e
unfolding end_at field
end_read m end.Done p = refl
end_read m end.Aborted p = refl
end_read m (end.Stopped c r) p = stop_read m c r p.0 p.1
