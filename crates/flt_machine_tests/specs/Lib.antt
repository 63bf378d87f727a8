pub mod StatusExamples
pub mod ConditionExamples
pub mod DebounceExamples
pub mod SettingExamples
pub mod ListExamples
pub mod FitExamples
pub mod LifeExamples
pub mod ScriptExamples
