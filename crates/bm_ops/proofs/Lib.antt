mod NumberLemmas
mod ScriptLemmas
