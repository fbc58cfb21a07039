use Rattle.std.proofs.Common.{◌∙◌, ◌++◌, ℕ, List, ◌∷◌, ap}
use Rattle.wb_words.specs.declared.card.Card.{Card}
use Rattle.wb_words.specs.declared.word.Kind.TheVariants.{ReadMiss, WriteHit, WriteMiss}
use Rattle.wb_words.specs.declared.word.Word.{Word}
use Rattle.wb_words.specs.declared.word.Word.TheVariants.{Count as CountWord, Fail}
use Rattle.wb_desk.specs.Desks.{DeskState}
use Rattle.wb_target.specs.Shown.{seals_latest_first}
use Rattle.wb_target.proofs.office.Office.fields.Goals as goal

pub returns-clause-looked : goal.returns-clause-looked
returns-clause-looked g c =
    let seals = c.count_dirty.ensures.looks in
    let desk = c.count-4.ensures.desk ∙ c.count-3.ensures.desk ∙ c.count-2.ensures.desk ∙ c.count.ensures.desk in
    record {
      word = c.has_failed.ensures.0;
      failed = c.has_failed.ensures.2;
      seals = seals;
      seals_are = c.count_dirty.ensures.words_are
          ∙ ap (λ (d : DeskState g.row.P.Denot). seals_latest_first d.tree d.geometry.cache_blocks) desk;
      dirty = c.count_dirty.ensures.dirty_are;
      saw = ap (λ (card : Card). card.saw) c.has_failed.ensures.1 ∙ ap (λ (rest : List (Word × ℕ)). (Fail, c.has_failed.ensures.0) ∷ rest) (
          c.count_dirty.ensures.saw ∙ ap (λ (rest : List (Word × ℕ)). seals ++ rest) (
          ap (λ (card : Card). card.saw) c.count-4.ensures.card ∙ ap (λ (rest : List (Word × ℕ)). (CountWord WriteMiss, c.count-4.result) ∷ rest) (
          ap (λ (card : Card). card.saw) c.count-3.ensures.card ∙ ap (λ (rest : List (Word × ℕ)). (CountWord WriteHit, c.count-3.result) ∷ rest) (
          ap (λ (card : Card). card.saw) c.count-2.ensures.card ∙ ap (λ (rest : List (Word × ℕ)). (CountWord ReadMiss, c.count-2.result) ∷ rest) (
          ap (λ (card : Card). card.saw) c.count.ensures.card)))));
    }
