-- A machine that has gone on by one record.
use Rattle.std.proofs.Common.{◌≡◌, ◌∙◌, ◌++◌, ◌∷◌, [], List, refl, sym, ap, subst}
use Rattle.std.proofs.lemmas.List.{map-append}
use Rattle.wb_promise.specs.declared.event.Record.{Record}
use Rattle.wb_promise.specs.States.{Shape, start}
use Rattle.wb_promise.specs.Happenings.{May}
use Rattle.wb_promise.specs.Effects.{after_happening, after_all, IsRun}
use Rattle.wb_machine.specs.Life.{Happened, Happens, IsReached, GoesOn, Now}

-- a run goes on by a happening that may come
run_more : (shape : Shape) (w : Now) (hs : List Happened) (h : Happened) → IsRun shape w hs → May shape (after_all shape w hs) h → IsRun shape w (hs ++ h ∷ [])
run_more shape w [] h run m = (m, tt)
run_more shape w (q ∷ hs) h run m = (run.0, run_more shape (after_happening shape w q) hs h run.1 m)

after_more : (shape : Shape) (w : Now) (hs : List Happened) (h : Happened) → after_all shape w (hs ++ h ∷ []) ≡ after_happening shape (after_all shape w hs) h
after_more shape w [] h = refl
after_more shape w (q ∷ hs) h = after_more shape (after_happening shape w q) hs h

module _ (shape : Shape) (trace trace' : List Record) (w w' : Now) (r : Record) (happens : Happens shape w r.event r.what r.read.items w') (told : trace' ≡ trace ++ r ∷ []) where
  abbrev happening : Happened
  happening = record { record_is = r; chosen = happens.chosen }

  may : May shape w happening
  may = happens.may

  pub reached : IsReached (record { shape = shape; trace = trace; state = w }) → IsReached (record { shape = shape; trace = trace'; state = w' })
  reached i = record {
    metadata = i.metadata;
    formatted = i.formatted;
    size = i.size;
    happenings = i.happenings ++ happening ∷ [];
    run = run_more shape (start shape i.metadata) i.happenings happening i.run (subst (λ (v : Now). May shape v happening) (sym i.leads) may);
    told = map-append (λ (h : Happened). h.record_is) i.happenings (happening ∷ []) ∙ ap (λ (rs : List Record). rs ++ r ∷ []) i.told ∙ sym told;
    leads = after_more shape (start shape i.metadata) i.happenings happening ∙ ap (λ (v : Now). after_happening shape v happening) i.leads ∙ sym happens.leads;
  }

  pub goes_on : GoesOn (record { shape = shape; trace = trace; state = w }) r.event (record { shape = shape; trace = trace'; state = w' })
  goes_on = record {
    happening = happening;
    of_event = refl;
    may = may;
    leads = ap (λ (rs : List Record). record { shape = shape; trace = rs; state = w' }) told ∙ ap (λ (v : Now). record { shape = shape; trace = trace ++ r ∷ []; state = v }) happens.leads;
  }
