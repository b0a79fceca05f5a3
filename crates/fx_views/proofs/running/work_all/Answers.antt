use denote.Param.Send.{sendable}
use denote.Ref.{NamedLft}
use Rattle.std.proofs.Common.{◌≡◌, Some, sym, subst, arith}
use Rattle.std.specs.Prelude.{slice_index_or}
use Rattle.std.proofs.Crossing.{crosses}
use Rattle.atomic_table.proofs.shared.Seat.TheSendSync.{the_send as table_seat}
use Rattle.fx_shared.proofs.Crosses.{Versioned-send}
use Rattle.fx_turn.specs.Seats.{view}
use Rattle.fx_shared.specs.Crews.{base_of}
use Rattle.fx_shared.specs.Shared.{IsFresh}
use Rattle.fx_crew.specs.Workers.{AreDone}
use Rattle.fx_crew.proofs.Works.{mapped, done_by}
use Rattle.fx_views.proofs.Crosses.{Worked-send, Crew-sync}
use Rattle.fx_views.proofs.running.work_all.Goals as goal

pub map_vec-requires-send-J : goal.map_vec-requires-send-J
map_vec-requires-send-J g c κs within = search (sendable, crosses, Versioned-send, table_seat) depth 40

pub map_vec-requires-send-X : goal.map_vec-requires-send-X
map_vec-requires-send-X g c κs within = search (sendable, crosses, Worked-send) depth 40

pub map_vec-requires-sync-F : goal.map_vec-requires-sync-F
map_vec-requires-sync-F g c κs within =
    let crew = λ (a : NamedLft). Crew-sync a _ _ c.type_bounds.sync-R c.type_bounds.sync-G in search (sendable, crew) depth 40

pub map_vec-requires-after_bounds : goal.map_vec-requires-after_bounds
map_vec-requires-after_bounds g c κs within = λ i x h e.
    let fresh = c.requires.passes.each i x h in
    subst (IsFresh (base_of c.args.crew.now) c.args.crew.now.shares.now) (sym e) fresh

pub returns-clause-done : goal.returns-clause-done
returns-clause-done g c =
    mapped _ _ (λ v. AreDone (base_of c.args.crew.now) c.args.crew.now.shares.now v.items) (λ v len each k d h.
    let j = (each k d (omega (arith, len, h))).1 in
    let passes = c.args.passes.items in
    let number = subst (λ p. (view p).number ≡ Some k) (j.job_is j.job) (c.requires.passes.numbered k j.job (omega (arith, len, h))) in
    done_by (base_of c.args.crew.now) c.args.crew.now.shares.now j.job k (slice_index_or v.items k d) number j.call.met)
    c.map_vec.result c.map_vec.ensures.len c.map_vec.ensures.each
