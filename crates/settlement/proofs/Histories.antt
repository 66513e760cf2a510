-- The accepted lines of a journal make calls on the book, so a history with these leads to what a run comes to.
use Rattle.std.proofs.Common.{◌≡◌, ◌∙◌, ℕ, List, [], ◌∷◌, ◌++◌, length, Ok, Option, inl, inr, ⊎_elim, append_assoc, refl, sym, ap, subst}
use Rattle.std.specs.Prelude.{IsSomeAnd}
use Rattle.std.specs.List.{concat}
use Rattle.balance.proofs.Theorem.{throughout}
use Rattle.balance.specs.Histories.{Event, Closing, Drawing, Entering, Issuing, Leads}
use Rattle.group.specs.declared.group.Group.{Group}
use Rattle.journal.specs.declared.line.Line.{Line}
use Rattle.group.specs.Books.{BookState, KeepsTerms}
use Rattle.group.specs.Months.{KeepsSharingLaw, Prices, Share}
use Rattle.cells.proofs.Overwriting.{put_as}
use Rattle.settlement.proofs.Billing.{put_none}
use Rattle.settlement.proofs.Order.{output_in_order}
use Rattle.settlement.specs.Accepting.{AcceptsInTurn, a_closing, an_entry, an_issue, none}
use Rattle.settlement.specs.Laws.{BodyIsInOrder, StopsAt1, StopsBehind}
use Rattle.settlement.specs.Leading.{AcceptsLines, LeadsOnBalanced}
use Rattle.settlement.specs.Output.{output_names}
use Rattle.settlement.specs.Runs.{RunsJournal, RunResult, EndsRun}
use Rattle.settlement.specs.Texts.{text_lines}
use Rattle.settlement.specs.declared.fault.RunFault.{RunFault}
use Rattle.settlement.specs.declared.runs.Outcome.{Outcome}

-- a history leads with the calls of accepted lines to the group after them
accepted_leads : (share : Share) (prices : ℕ → Prices) (lines : List Line) (group : Group) (texts : List (List ℕ)) (calls : List Event) (after : Group) → AcceptsInTurn share prices lines group texts calls after → (history : List Event) → Leads share prices history group → Leads share prices (calls ++ history) after
accepted_leads share prices lines group texts calls after (none g) history leads = leads
accepted_leads share prices lines group texts calls after (an_entry entry rest g new a more_texts later enters more) history leads =
    subst (λ (h : List Event). Leads share prices h after) (sym (append_assoc later (Entering entry (Ok tt) ∷ []) history))
    (accepted_leads share prices rest new more_texts later after more (Entering entry (Ok tt) ∷ history) (group, leads, enters))
accepted_leads share prices lines group texts calls after (an_issue drawing bills rest g new a more_texts later draws issues more) history leads =
    subst (λ (h : List Event). Leads share prices h after) (sym (append_assoc later (Issuing drawing.0 32 (Ok bills) ∷ Drawing 32 (Ok drawing) ∷ []) history))
    (accepted_leads share prices rest new more_texts later after more (Issuing drawing.0 32 (Ok bills) ∷ Drawing 32 (Ok drawing) ∷ history) (group, (group, leads, (draws, refl)), issues))
accepted_leads share prices lines group texts calls after (a_closing december figures rest g new a more_texts later ends closes more) history leads =
    subst (λ (h : List Event). Leads share prices h after) (sym (append_assoc later (Closing (Ok figures) ∷ []) history))
    (accepted_leads share prices rest new more_texts later after more (Closing (Ok figures) ∷ history) (group, leads, closes))

-- what a run did, where it stopped at line 1
accepts_nothing : (share : Share) (prices : ℕ → Prices) (journal : List ℕ) (old new : List ℕ × Group) (answer : Outcome) (ran : RunResult) → EndsRun ran 0 old answer new → StopsAt1 journal (length old.0) old.1 ran → AcceptsLines share prices journal old answer new
accepts_nothing share prices journal old new answer ran (fault, put, is) stops =
    let nothing = put_as stops.text put in
    record {
      lines = [];
      texts = [];
      calls = [];
      accepted = subst (λ (g : Group). AcceptsInTurn share prices [] old.1 [] [] g) (sym (is ∙ stops.after)) (none old.1);
      written = inl
          (record {
            none = refl;
            fault = subst (λ (f : Option RunFault). IsSomeAnd f (λ at. at.line ≡ 1)) (sym (fault ∙ stops.fault)) refl;
            written = nothing.stop;
            output = nothing.held ∙ sym (put_none old.0 0).held;
          });
    }

-- and where it went behind it
accepts_first : (share : Share) (prices : ℕ → Prices) (journal : List ℕ) (old new : List ℕ × Group) (answer : Outcome) (ran : RunResult) → EndsRun ran 0 old answer new → BodyIsInOrder share prices journal (length old.0) old.1 ran → AcceptsLines share prices journal old answer new
accepts_first share prices journal old new answer ran (fault, put, is) found =
    let order = found.order in
    let there : found.rest.group ≡ new.1 = sym (is ∙ ap (λ (r : RunResult). r.group) found.names) in
    let text : ran.text ≡ output_names ++ concat order.texts = ap (λ (r : RunResult). r.text) found.names ∙ ap (λ t. output_names ++ t) order.output in
    let stops : found.rest.fault ≡ answer.fault = sym (fault ∙ ap (λ (r : RunResult). r.fault) found.names) in
    record {
      lines = order.accepted;
      texts = order.texts;
      calls = order.calls;
      accepted = subst (λ (g : Group). AcceptsInTurn share prices order.accepted old.1 order.texts order.calls g) there order.taken;
      written = inr
          (record {
            body = found.body;
            begins = found.begins;
            read = order.read;
            stop = subst (λ (f : Option RunFault). StopsBehind 2 (length order.accepted) (length (text_lines found.body)) f) stops order.stop;
            output = put_as text put;
          });
    }

accepts : (share : Share) (prices : ℕ → Prices) (journal : List ℕ) (old new : List ℕ × Group) (answer : Outcome) → RunsJournal share prices journal old answer new → AcceptsLines share prices journal old answer new
accepts share prices journal old new answer (ran, over, done) =
    ⊎_elim
    (λ stops. accepts_nothing share prices journal old new answer ran done stops)
    (λ found. accepts_first share prices journal old new answer ran done found)
    (output_in_order share prices journal (length old.0) old.1 ran over)

-- a run leads on
pub run_leads_on : {R T : Type 0} (share : R → Share) (prices : T → ℕ → Prices) → ((rule : R) → KeepsSharingLaw (share rule)) → (journal : List ℕ) (old new : List ℕ × BookState R T) (answer : Outcome) → KeepsTerms old.1 new.1 → RunsJournal (share old.1.rule) (prices old.1.tariff) journal (old.0, old.1.group) answer (new.0, new.1.group) → LeadsOnBalanced share prices journal old answer new
run_leads_on {R} {T} share prices keeps journal old new answer same done =
    let order = accepts (share old.1.rule) (prices old.1.tariff) journal (old.0, old.1.group) (new.0, new.1.group) answer done in
    record {
      order = order;
      balanced = λ history leads.
          let there = accepted_leads (share old.1.rule) (prices old.1.tariff) order.lines old.1.group order.texts order.calls new.1.group order.accepted history leads in
          let by_rule = subst (λ (r : R). Leads (share r) (prices old.1.tariff) (order.calls ++ history) new.1.group) (sym same.rule) there in
          let to_new = subst (λ (t : T). Leads (share new.1.rule) (prices t) (order.calls ++ history) new.1.group) (sym same.tariff) by_rule in
          (to_new, throughout (share new.1.rule) (keeps new.1.rule) (prices new.1.tariff) (order.calls ++ history) new.1.group to_new);
    }
