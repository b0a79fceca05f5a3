-- How the stages of a run with views end that read, from what each of them asks.
use Rattle.std.proofs.Common.{◌≡◌, inl, inr, ℕ, false, List, [], ◌∷◌, IfSome, sym, subst}
use Rattle.fx_outside.specs.Host.{HostView, ReadsOnly, FaultAt}
use Rattle.fx_spec.specs.CommandTree.{CommandTree}
use Rattle.fx_spec.specs.SpecTree.{SpecTree}
use Rattle.fx_spec.specs.Order.{BaseTree}
use Rattle.fx_spec.specs.Plans.{script_of}
use Rattle.fx_outside.specs.Tree.{is_file_at}
use Rattle.fx_outside.proofs.Views.{fault_back}
use Rattle.fx_command.specs.declared.status.Status.{Status}
use Rattle.fx_command.specs.declared.status.Status.TheVariants as status
use Rattle.fx_command.specs.Reading.{ReadEnds}
use Rattle.fx_command.proofs.Readings.{IsSteady, ends_within, steady_ends}
use Rattle.fx_command.proofs.Told.{if_some_map, if_some_both, cause_back, some_back}
use Rattle.fx_command.specs.Files.{IsNoDescriptionAt, description_reading}
use Rattle.fx_inputs.specs.declared.views.TheConstants.{VIEWS_WORD}
use Rattle.fx_inputs.specs.Causes.{script_reading}
use Rattle.fx_inputs.specs.Inputs.{HasBase, HasScript, HasSpec, HasSomeSpec, HasNoScript, HasMoreScripts}
use Rattle.fx_inputs.specs.Reads.{ReadRow, inputs_reading}
use Rattle.fx_inputs.specs.Views.{HasBases, HasSomeViews, HasViewsAlone, ViewsReadRow, views_reading}
use Rattle.fx_inputs.proofs.ReadRows.{inputs_steady}
use Rattle.fx_words.specs.Job.{ViewsJob}

-- ---- the description, the views or what comes after them is not read, or refused

pub spec_unread : (j : ViewsJob) (host host' : HostView) (st : Status) → ReadEnds (description_reading j.inputs.spec) host host' st → ViewsReadRow j host host' st
spec_unread j host host' st ends = ends_within (description_reading j.inputs.spec) (views_reading j) host host' st (λ st why. inl why) ends

pub views_unread : (j : ViewsJob) (host host' : HostView) (st : Status) → IfSome host.told (λ t. HasSomeSpec t j.inputs) → ReadEnds (script_reading VIEWS_WORD j.views 0) host host' st → ViewsReadRow j host host' st
views_unread j host host' st spec ends = ends_within (script_reading VIEWS_WORD j.views 0) (views_reading j) host host' st (λ st why. inr (inl (spec, why))) ends

pub after_views : (j : ViewsJob) (host host' : HostView) (st : Status) → IfSome host.told (λ t. HasSomeViews t j) → ReadRow j.inputs host host' st → ViewsReadRow j host host' st
after_views j host host' st views row = ends_within (inputs_reading j.inputs) (views_reading j) host host' st (λ st why. inr (inr (views, why))) row

-- ---- they are read

abbrev Plan : Type 0
Plan = List (List (List CommandTree))

pub views_alone : (j : ViewsJob) (host : HostView) (script : List (List CommandTree)) (plan : Plan) → plan ≡ script ∷ [] → IfSome host.told (λ t. HasMoreScripts t j.views 0 script) → IfSome host.told (λ t. HasViewsAlone t j plan)
views_alone j host script plan is goes =
    if_some_map (λ t. HasMoreScripts t j.views 0 script) (λ t. HasViewsAlone t j plan) host.told (λ t goes. subst (λ p. HasScript t j.views 0 (script_of p 0)) (sym is) goes.script) goes

pub some_views : (j : ViewsJob) (spec : SpecTree) (plan : Plan) (a b c : HostView) → ReadsOnly a b → ReadsOnly b c → IfSome a.told (λ t. HasSpec t j.inputs spec) → IfSome b.told (λ t. HasViewsAlone t j plan) → IfSome c.told (λ t. HasSomeViews t j)
some_views j spec plan a b c first then has alone =
    subst (λ o. IfSome o (λ t. HasSomeViews t j)) (sym then.same)
    (if_some_both (λ t. HasSpec t j.inputs spec) (λ t. HasViewsAlone t j plan) (λ t. HasSomeViews t j) b.told (λ t spec_is alone. ((spec, spec_is), (script_of plan 0, alone)))
    (subst (λ o. IfSome o (λ t. HasSpec t j.inputs spec)) (sym first.same) has) alone)

pub whole_bases : (j : ViewsJob) (scripts views : BaseTree) (plan : Plan) (a b c : HostView) → ReadsOnly a b → ReadsOnly b c → views.plan ≡ plan → IfSome b.told (λ t. HasViewsAlone t j plan) → IfSome c.told (λ t. HasBase t j.inputs scripts) → IfSome a.told (λ t. HasBases t j scripts views)
whole_bases j scripts views plan a b c first then is alone begins =
    if_some_both (λ t. HasViewsAlone t j plan) (λ t. HasBase t j.inputs scripts) (λ t. HasBases t j scripts views) a.told
    (λ t alone begins. record { begins = begins; alone = subst (λ p. HasViewsAlone t j p) (sym is) alone })
    (some_back (λ t. HasViewsAlone t j plan) a b first alone) (some_back (λ t. HasBase t j.inputs scripts) a b first (some_back (λ t. HasBase t j.inputs scripts) b c then begins))

-- ---- a row from a later moment on is one from an earlier moment on, where only reads lie between

description_steady : (path : List ℕ) → IsSteady (description_reading path)
description_steady path a b c status.Done reads is = is
description_steady path a b c status.Usage reads is = is
description_steady path a b c (status.TextRefused word cause) reads is = (is.0, some_back (λ t. IsNoDescriptionAt t path cause) a b reads is.1)
description_steady path a b c (status.FolderRefused cause) reads is = is
description_steady path a b c status.ReadFault reads is = cause_back (FaultAt path) (λ t. is_file_at t path ≡ false) a b c reads (fault_back path a b c reads.later) is
description_steady path a b c status.NotEmpty reads is = is
description_steady path a b c status.WriteFault reads is = is
description_steady path a b c status.NoMemory reads is = is
description_steady path a b c (status.BadJournal place) reads is = is

script_steady : (word : ℕ) (path : List ℕ) (before : ℕ) → IsSteady (script_reading word path before)
script_steady word path before a b c status.Done reads is = is
script_steady word path before a b c status.Usage reads is = is
script_steady word path before a b c (status.TextRefused w cause) reads is = (is.0, some_back (λ t. HasNoScript cause t path before) a b reads is.1)
script_steady word path before a b c (status.FolderRefused cause) reads is = is
script_steady word path before a b c status.ReadFault reads is = cause_back (FaultAt path) (λ t. is_file_at t path ≡ false) a b c reads (fault_back path a b c reads.later) is
script_steady word path before a b c status.NotEmpty reads is = is
script_steady word path before a b c status.WriteFault reads is = is
script_steady word path before a b c status.NoMemory reads is = is
script_steady word path before a b c (status.BadJournal place) reads is = is

pub views_steady : (j : ViewsJob) → IsSteady (views_reading j)
views_steady j a b c st reads (inl why) = inl (description_steady j.inputs.spec a b c st reads why)
views_steady j a b c st reads (inr (inl (spec, why))) = inr (inl (some_back (λ t. HasSomeSpec t j.inputs) a b reads spec, script_steady VIEWS_WORD j.views 0 a b c st reads why))
views_steady j a b c st reads (inr (inr (views, why))) = inr (inr (some_back (λ t. HasSomeViews t j) a b reads views, inputs_steady j.inputs a b c st reads why))

pub views_row_back : (j : ViewsJob) (a b c : HostView) (st : Status) → ReadsOnly a b → ViewsReadRow j b c st → ViewsReadRow j a c st
views_row_back j a b c st reads row = steady_ends (views_reading j) (views_steady j) a b c st reads row
